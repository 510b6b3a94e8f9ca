-- Where a name between quotes ends, and which bytes it has.
use Rattle.std.proofs.Common.{◌≡◌, ◌<◌, ◌≤◌, ◌+◌, ◌==◌, ◌&&◌, ℕ, Bool, true, false, cond, not, ◌↔◌, Option, None, Some, List, [], ◌∷◌, ◌++◌, length, take, drop, get_or, slice_set, nat_eq, arith, sym, ◌∙◌, ap, refl, append_assoc, length-append, length-drop, length-set}
use Rattle.std.proofs.lemmas.Bool.{and_parts, not-true, lt-ltb, le-leb}
use Rattle.std.proofs.lemmas.Bool.Decides.{Decides-eqb, nat_tests}
use Rattle.std.proofs.lemmas.List.{append-nil, length-take-le, take_more_set}
use Rattle.std.proofs.lemmas.Slice.Eq.{starts_is}
use Rattle.std.proofs.lemmas.Str.{IsUtf8-from_is_utf8, is_utf8-from_IsUtf8}
use Rattle.std.specs.Prelude.{nat_lt, nat_le}
use Rattle.std.specs.List.{starts_with, list_any}
use Rattle.std.specs.Str.{is_utf8}
use Rattle.schema_model.specs.declared.name.TheConstants.{MOST_NAME_BYTES}
use Rattle.schema_model.specs.Names.{IsName, is_control, begins_with_mark}
use Rattle.lexer.specs.Quotes.{is_name, further, closing_quote, undoubled}

-- the test of a name
pub name_test : (name : List ℕ) → (is_name name ≡ true) ↔ IsName name
name_test name = (
  λ is.
      let parts = and_parts
      (((nat_lt 0 (length name) && nat_le (length name) MOST_NAME_BYTES) && not (list_any is_control name))
      && not (begins_with_mark name)) (is_utf8 name) is in
      let front = and_parts ((nat_lt 0 (length name) && nat_le (length name) MOST_NAME_BYTES) && not (list_any is_control name))
      (not (begins_with_mark name)) parts.0 in
      let size = and_parts (nat_lt 0 (length name) && nat_le (length name) MOST_NAME_BYTES) (not (list_any is_control name)) front.0 in
      let bounds = and_parts (nat_lt 0 (length name)) (nat_le (length name) MOST_NAME_BYTES) size.0 in
      record {
        some_bytes = grind (arith, nat_tests, bounds.0);
        within_limit = grind (arith, nat_tests, bounds.1);
        utf8 = IsUtf8-from_is_utf8 name parts.1;
        no_control = not-true (list_any is_control name) size.1;
        no_mark = not-true (begins_with_mark name) front.1;
      },
  λ is.
      rw (
        lt-ltb 0 (length name) is.some_bytes,
        le-leb (length name) MOST_NAME_BYTES is.within_limit,
        is.no_control,
        is.no_mark,
        is_utf8-from_IsUtf8 name is.utf8,
      ) refl,
)

name_length : (name : List ℕ) → is_name name ≡ true → length name ≤ MOST_NAME_BYTES
name_length name e = ((name_test name).0 e).within_limit

-- what further bytes come to
pub record IsFurther (n k : ℕ) (o : Option ℕ) : Type 0 where
  pub before : ℕ
  pub found : o ≡ Some before
  pub sum : k ≡ n + before

further_some : (n k : ℕ) (o : Option ℕ) → further n o ≡ Some k → IsFurther n k o
further_some n k None e = cc
further_some n k (Some before) e = let same : n + before ≡ k = cc in record { before = before; found = refl; sum = sym same }

pub further_further : (a b : ℕ) (o : Option ℕ) → further a (further b o) ≡ further (a + b) o
further_further a b None = refl
further_further a b (Some k) = ap (λ (n : ℕ). Some n) (omega arith)

pub further_zero : (o : Option ℕ) → further 0 o ≡ o
further_zero None = refl
further_zero (Some k) = ap (λ (n : ℕ). Some n) (omega arith)

-- the quote that closes is a byte of the text
pub closing_below : (text : List ℕ) (n : ℕ) → closing_quote text ≡ Some n → n < length text
unfolding closing_quote
closing_below [] n e = cc
closing_below (b ∷ []) n e = one (b == 34) e
  where
    one : (q : Bool) → cond q (Some 0) None ≡ Some n → n < 1
    one true f = let same : 0 ≡ n = cc in omega arith
    one false f = cc
closing_below (b ∷ c ∷ bs) n e = two (b == 34) (c == 34) e (closing_below bs) (closing_below (c ∷ bs))
  where
    two : (q r : Bool) → cond q (cond r (further 2 (closing_quote bs)) (Some 0)) (further 1 (closing_quote (c ∷ bs))) ≡ Some n
        → ((k : ℕ) → closing_quote bs ≡ Some k → k < length bs)
        → ((k : ℕ) → closing_quote (c ∷ bs) ≡ Some k → k < length (c ∷ bs)) → n < length (b ∷ c ∷ bs)
    two true true f later next =
        let more = further_some 2 n (closing_quote bs) f in
        let below = later more.before more.found in omega (arith, more.sum, below)
    two true false f later next = let same : 0 ≡ n = cc in omega arith
    two false r f later next =
        let more = further_some 1 n (closing_quote (c ∷ bs)) f in
        let below = next more.before more.found in omega (arith, more.sum, below)

-- so many bytes are passed, of which none closes
pub record IsPassed (text : List ℕ) (end : ℕ) (rest : List ℕ) : Type 0 where
  pub same : closing_quote text ≡ further end (closing_quote rest)
  pub fits : end + length rest ≡ length text

-- so many bytes of a name are in the array, and the others are spelled by what is left
pub record IsSpelled (text bytes : List ℕ) (count : ℕ) (rest : List ℕ) : Type 0 where
  pub same : undoubled text ≡ take count bytes ++ undoubled rest
  pub whole : length bytes ≡ MOST_NAME_BYTES
  pub within : count ≤ MOST_NAME_BYTES

abbrev pub is_doubled : List ℕ → Bool
is_doubled text = starts_with nat_eq text (34 ∷ 34 ∷ [])

abbrev pub is_quote : List ℕ → Bool
is_quote text = starts_with nat_eq text (34 ∷ [])

starts_with-split : (text needle : List ℕ) → starts_with nat_eq text needle ≡ true → text ≡ needle ++ drop (length needle) text
starts_with-split text needle e = (starts_is Decides-eqb text needle _ refl).0 e

-- ---- the quote that closes
closing_doubled : (text : List ℕ) → is_doubled text ≡ true → closing_quote text ≡ further 2 (closing_quote (drop 2 text))
unfolding closing_quote
closing_doubled text e = ap closing_quote (starts_with-split text (34 ∷ 34 ∷ []) e)

pub closing_at_quote : (rest : List ℕ) → is_doubled (34 ∷ rest) ≡ false → closing_quote (34 ∷ rest) ≡ Some 0
unfolding closing_quote
closing_at_quote [] e = refl
closing_at_quote (c ∷ bs) e = let other : (c == 34) ≡ false = grind (arith, nat_tests) in rw other refl

closing_here : (text : List ℕ) → is_quote text ≡ true → is_doubled text ≡ false → closing_quote text ≡ Some 0
closing_here text e single =
    let whole : text ≡ 34 ∷ drop 1 text = starts_with-split text (34 ∷ []) e in
    ap closing_quote whole ∙ closing_at_quote (drop 1 text) (ap is_doubled (sym whole) ∙ single)

pub closing_other : (text : List ℕ) → 0 < length text → is_quote text ≡ false → closing_quote text ≡ further 1 (closing_quote (drop 1 text))
unfolding closing_quote
closing_other [] not_empty e = absurd (omega arith)
closing_other (b ∷ []) not_empty e = let other : (b == 34) ≡ false = grind (arith, nat_tests) in rw other refl
closing_other (b ∷ c ∷ bs) not_empty e = let other : (b == 34) ≡ false = grind (arith, nat_tests) in rw other refl

pass : (text rest : List ℕ) (end step : ℕ) → step ≤ length rest → closing_quote rest ≡ further step (closing_quote (drop step rest))
    → IsPassed text end rest → IsPassed text (end + step) (drop step rest)
pass text rest end step within e passed = record {
  same = passed.same ∙ ap (further end) e ∙ further_further end step (closing_quote (drop step rest));
  fits = omega (arith, passed.fits, length-drop step rest);
}

pub pass_doubled : (text rest after : List ℕ) (end step : ℕ) → IsPassed text end rest → is_doubled rest ≡ true → step ≡ 2 → after ≡ drop step rest
    → IsPassed text (end + step) after
pass_doubled text rest after end step passed e is back =
    let size : length rest ≡ length (34 ∷ 34 ∷ drop 2 rest) = ap length (starts_with-split rest (34 ∷ 34 ∷ []) e) in
    rw back (pass text rest end step (omega arith) (rw is (closing_doubled rest e)) passed)

pub pass_other : (text rest after : List ℕ) (end step : ℕ) → IsPassed text end rest → 0 < length rest → is_quote rest ≡ false → step ≡ 1 → after ≡ drop step rest
    → IsPassed text (end + step) after
pass_other text rest after end step passed not_empty e is back =
    rw back (pass text rest end step (omega arith) (rw is (closing_other rest not_empty e)) passed)

pub passed_all : (text rest : List ℕ) (end : ℕ) → IsPassed text end rest → length rest ≡ 0 → None ≡ closing_quote text
unfolding closing_quote
passed_all text [] end passed e = sym passed.same
passed_all text (b ∷ bs) end passed e = absurd (omega arith)

pub passed_to : (text rest : List ℕ) (end : ℕ) → IsPassed text end rest → is_quote rest ≡ true → is_doubled rest ≡ false → Some end ≡ closing_quote text
passed_to text rest end passed e single =
    sym (passed.same ∙ ap (further end) (closing_here rest e single) ∙ ap (λ (n : ℕ). Some n) (omega arith))

-- ---- the name
undoubled_two : (text : List ℕ) → is_doubled text ≡ true → undoubled text ≡ get_or text 0 0 ∷ undoubled (drop 2 text)
unfolding undoubled
undoubled_two text e =
    let whole = starts_with-split text (34 ∷ 34 ∷ []) e in
    let first : get_or text 0 0 ≡ 34 = ap (λ t. get_or t 0 0) whole in
    ap undoubled whole ∙ ap (λ (b : ℕ). b ∷ undoubled (drop 2 text)) (sym first)

pub undoubled_one : (text : List ℕ) → 0 < length text → is_doubled text ≡ false → undoubled text ≡ get_or text 0 0 ∷ undoubled (drop 1 text)
unfolding undoubled
undoubled_one [] not_empty e = absurd (omega arith)
undoubled_one (b ∷ []) not_empty e = refl
undoubled_one (b ∷ c ∷ bs) not_empty e = let other : (b == 34 && c == 34) ≡ false = grind (arith, nat_tests) in rw other refl

spell : (text bytes rest : List ℕ) (count step : ℕ) → undoubled rest ≡ get_or rest 0 0 ∷ undoubled (drop step rest) → count < MOST_NAME_BYTES
    → IsSpelled text bytes count rest → IsSpelled text (slice_set bytes count (get_or rest 0 0)) (count + 1) (drop step rest)
spell text bytes rest count step e room spelled =
    let stored = take_more_set bytes count (get_or rest 0 0) (omega (arith, spelled.whole)) in
    record {
      same = spelled.same ∙ ap (λ t. take count bytes ++ t) e
          ∙ sym (append_assoc (take count bytes) (get_or rest 0 0 ∷ []) (undoubled (drop step rest)))
          ∙ ap (λ t. t ++ undoubled (drop step rest)) (sym stored);
      whole = length-set bytes count (get_or rest 0 0) ∙ spelled.whole;
      within = omega arith;
    }

pub spell_two : (text bytes rest after : List ℕ) (count step : ℕ) → IsSpelled text bytes count rest → count < MOST_NAME_BYTES
    → is_doubled rest ≡ true → step ≡ 2 → after ≡ drop step rest
    → IsSpelled text (slice_set bytes count (get_or rest 0 0)) (count + 1) after
spell_two text bytes rest after count step spelled room e is back =
    rw back (spell text bytes rest count step (rw is (undoubled_two rest e)) room spelled)

pub spell_one : (text bytes rest after : List ℕ) (count step : ℕ) → IsSpelled text bytes count rest → count < MOST_NAME_BYTES
    → 0 < length rest → is_doubled rest ≡ false → step ≡ 1 → after ≡ drop step rest
    → IsSpelled text (slice_set bytes count (get_or rest 0 0)) (count + 1) after
spell_one text bytes rest after count step spelled room not_empty e is back =
    rw back (spell text bytes rest count step (rw is (undoubled_one rest not_empty e)) room spelled)

some_more : (rest : List ℕ) → 0 < length rest → 0 < length (undoubled rest)
unfolding undoubled
some_more [] not_empty = absurd (omega arith)
some_more (b ∷ []) not_empty = omega arith
some_more (b ∷ c ∷ bs) not_empty = more (b == 34 && c == 34)
  where
    more : (q : Bool) → 0 < length (cond q (34 ∷ undoubled bs) (b ∷ undoubled (c ∷ bs)))
    more true = omega arith
    more false = omega arith

-- no name has so many bytes
pub too_long : (text bytes rest : List ℕ) (count : ℕ) → IsSpelled text bytes count rest → count ≡ MOST_NAME_BYTES → 0 < length rest
    → is_name (undoubled text) ≡ true → ⊥
too_long text bytes rest count spelled full not_empty name =
    let more = some_more rest not_empty in
    let size : length (undoubled text) ≡ count + length (undoubled rest) =
    ap length spelled.same ∙ length-append (take count bytes) (undoubled rest)
    ∙ ap (λ n. n + length (undoubled rest)) (length-take-le count bytes (omega (arith, spelled.whole, spelled.within))) in
    let short = name_length (undoubled text) name in
    omega arith

pub spelled_all : (text bytes rest : List ℕ) (count : ℕ) → IsSpelled text bytes count rest → length rest ≡ 0 → undoubled text ≡ take count bytes
unfolding undoubled
spelled_all text bytes [] count spelled e = spelled.same ∙ append-nil (take count bytes)
spelled_all text bytes (b ∷ bs) count spelled e = absurd (omega arith)

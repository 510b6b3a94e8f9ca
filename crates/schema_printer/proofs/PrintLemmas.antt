-- What is printed so far of a set or of a declaring line, and what is still to print.
use Rattle.std.proofs.Common.{◌≡◌, ◌<◌, ◌≤◌, ◌+◌, ⊎_elim, inl, inr, zero, suc, arith, ℕ, Bool, true, false, cond, List, [], ◌∷◌, ◌++◌, length, drop, refl, sym, ◌∙◌, ap, subst, append_assoc, add-one, drop-cons, get_or, Some}
use Rattle.std.specs.List.{slice_get}
use Rattle.std.proofs.lemmas.Bool.{cases_Bool, cases_eq, eqb-true, false≢true}
use Rattle.std.proofs.lemmas.Slice.Eq.{bytes_eq-Decides}
use Rattle.schema_model.specs.declared.column_type.ColumnType.TheVariants.{Text, Integer, Date, Timestamp, Decimal, Uuid, Other}
use Rattle.std.proofs.lemmas.Bool.Decides.{nat_tests}
use Rattle.std.proofs.lemmas.List.{drop_all}
use Rattle.std.specs.Result.{OnOk}
use Rattle.std.specs.Prelude.{Result, Ok, Err}
use Rattle.std.proofs.lemmas.Option.{get_or_from_slice_get, slice_get_within}
use Rattle.std.proofs.lemmas.List.{append-nil}
use Rattle.std.specs.Prelude.{map, codes}
use Rattle.attr_sets.specs.Attributes.{Attributes, IsEmpty, IsSubset, below}
use Rattle.schema_model.specs.declared.column_type.ColumnType.{ColumnType}
use Rattle.schema_printer.specs.Printing.{words_text, members_from, side_text, set_text, runs_of, in_front, run_line, lines_text, type_word, same_column, is_integer, nullable_lines, Run}

-- what is still to print of a set, where a name stood before or not
abbrev pub rest_text : Bool → List (List ℕ) → List ℕ
rest_text true words = words_text words
rest_text false words = side_text words

pub record PrintsSet (names : List (List ℕ)) (x : Attributes) (before text : List ℕ) (any_written : Bool) (attribute : ℕ) : Type 0 where
  pub same : text ++ rest_text any_written (members_from x attribute (drop attribute names)) ≡ before ++ set_text names x

-- what stands after a name of this type
abbrev pub after_text : ColumnType → List ColumnType → List (List ℕ) → List ℕ
after_text c [] names = 10 ∷ []
after_text c (d ∷ ds) [] = 10 ∷ []
after_text c (d ∷ ds) (name ∷ names) =
    cond (same_column c d) (32 ∷ name) (10 ∷ (type_word d ++ 32 ∷ name)) ++ after_text d ds names

pub record PrintsRuns (columns : List ColumnType) (names : List (List ℕ)) (before text : List ℕ) (last : ColumnType) (attribute : ℕ) : Type 0 where
  pub same : text ++ after_text last (drop attribute columns) (drop attribute names) ≡ before ++ lines_text (map run_line (runs_of columns names))

-- an element, and what stands from it on
pub drop-item : {X : Type 0} (xs : List X) (i : ℕ) (x : X) → slice_get xs i ≡ Some x → drop i xs ≡ x ∷ drop (i + 1) xs
drop-item xs i x e =
    let inside : i < length xs = slice_get_within xs i x e in
    rw (add-one, drop-cons xs i x)
    (let same : get_or xs i x ≡ x = get_or_from_slice_get xs i x x e in rw same refl)

pub set_inside : (names : List (List ℕ)) (x : Attributes) (before text next : List ℕ) (any_written more : Bool) (k : ℕ) (name : List ℕ)
    → PrintsSet names x before text any_written k → slice_get names k ≡ Some name → true ≡ x k
    → next ≡ text ++ cond any_written (32 ∷ name) name → more ≡ true → PrintsSet names x before next more (k + 1)
set_inside names x before text next true more k name prints here within added is_more = record {
  same = let rest = drop-item names k name here in let inside : x k ≡ true = sym within in let old = prints.same in rw (added, is_more) (rw append_assoc (rw (rest, inside) at old));
}
set_inside names x before text next false more k name prints here within added is_more = record {
  same = let rest = drop-item names k name here in let inside : x k ≡ true = sym within in let old = prints.same in rw (added, is_more) (rw append_assoc (rw (rest, inside) at old));
}

-- runs whose first one has this type, and what stands after its word in the text
record IsLed (c : ColumnType) (rest : List ℕ) (runs : List Run) : Type 0 where
  names : List (List ℕ)
  others : List Run
  whole : runs ≡ record { column = c; names = names } ∷ others
  text : words_text names ++ 10 ∷ lines_text (map run_line others) ≡ rest

IsLed-one : (c : ColumnType) (name : List ℕ) → IsLed c ((32 ∷ name) ++ 10 ∷ []) (record { column = c; names = name ∷ [] } ∷ [])
IsLed-one c name = record { names = name ∷ []; others = []; whole = refl; text = rw (append-nil name) refl }

IsLed-in_front : (c d : ColumnType) (name rest : List ℕ) (runs : List Run) → IsLed d rest runs
    → IsLed c ((32 ∷ name) ++ cond (same_column c d) rest (10 ∷ (type_word d ++ rest))) (in_front c name runs)
IsLed-in_front c d name rest runs led =
    ⊎_elim
    (λ (same : same_column c d ≡ true).
    let text : words_text (name ∷ led.names) ++ 10 ∷ lines_text (map run_line led.others) ≡ (32 ∷ name) ++ rest =
    rw append_assoc (rw led.text refl) in
    rw (led.whole, same) (record { names = name ∷ led.names; others = led.others; whole = refl; text = text }))
    (λ (other : same_column c d ≡ false).
    let more = lines_text (map run_line led.others) in
    let inner : ((type_word d ++ words_text led.names) ++ 10 ∷ []) ++ more
    ≡ type_word d ++ (words_text led.names ++ 10 ∷ more) =
    simp append_assoc in
    rw (led.whole, other) (record {
      names = name ∷ [];
      others = record { column = d; names = led.names } ∷ led.others;
      whole = refl;
      text = rw (append-nil name) (rw (inner, led.text) refl);
    }))
    (cases_Bool (same_column c d))

runs_led : (c : ColumnType) (name : List ℕ) (columns : List ColumnType) (names : List (List ℕ))
    → IsLed c ((32 ∷ name) ++ after_text c columns names) (in_front c name (runs_of columns names))
runs_led c name [] names = IsLed-one c name
runs_led c name (d ∷ columns) [] = IsLed-one c name
runs_led c name (d ∷ columns) (next ∷ names) =
    let led = IsLed-in_front c d name ((32 ∷ next) ++ after_text d columns names) (runs_of (d ∷ columns) (next ∷ names)) (runs_led d next columns names) in
    let here = 32 ∷ next in
    let there = 10 ∷ (type_word d ++ 32 ∷ next) in
    let more = after_text d columns names in
    let same : cond (same_column c d) here there ++ more ≡ cond (same_column c d) (here ++ more)
    (there ++ more) =
    elim (same_column c d) as
    (λ b. cond b here there ++ more ≡ cond b (here ++ more) (there ++ more)) [ true ↦ refl | false ↦ refl ] in
    let far : there ++ more ≡ 10 ∷ (type_word d ++ (here ++ more)) = simp append_assoc in
    let of : List ℕ → Type 0 = λ rest. IsLed c ((32 ∷ name) ++ rest) (in_front c name (runs_of (d ∷ columns) (next ∷ names))) in
    subst of (ap (λ t. cond (same_column c d) (here ++ more) t) (sym far) ∙ sym same) led

pub runs_begin : (columns : List ColumnType) (names : List (List ℕ)) (before text : List ℕ) (c : ColumnType) (name : List ℕ)
    → slice_get columns 0 ≡ Some c → slice_get names 0 ≡ Some name → text ≡ before ++ (type_word c ++ 32 ∷ name) → PrintsRuns columns names before text c 1
runs_begin [] names before text c name first_type first_name added = cc
runs_begin (d ∷ columns) [] before text c name first_type first_name added = cc
runs_begin (d ∷ columns) (first ∷ names) before text c name first_type first_name added =
    let type_is : d ≡ c = cc in
    let name_is : first ≡ name = cc in
    let led = runs_led d first columns names in
    let whole : lines_text
    (map run_line (runs_of (d ∷ columns) (first ∷ names))) ≡ type_word
    d ++ ((32 ∷ first) ++ after_text d columns names) =
    rw led.whole (simp (append_assoc, led.text)) in
    record { same = rw (whole, added, type_is, name_is) (simp append_assoc) }

-- ---- attributes of which a value may be missing
pub members_empty : (x : Attributes) (k : ℕ) (names : List (List ℕ)) → IsEmpty x → members_from x k names ≡ []
members_empty x k [] none = refl
members_empty x k (name ∷ names) none = rw (none k) (members_empty x (k + 1) names none)

cons_not_nil : (name : List ℕ) (names : List (List ℕ)) → name ∷ names ≡ [] → ⊥
cons_not_nil name names same = cc

members_none : (x : Attributes) (k : ℕ) (names : List (List ℕ)) → members_from x k names ≡ []
    → (j : ℕ) → k ≤ j → j < k + length names → x j ≡ false
members_none x k [] none j from low = absurd (omega arith)
members_none x k (name ∷ names) none j from low =
    elim (cases_Bool (x k)) [
      | inl inside ↦ absurd (cons_not_nil name (members_from x (k + 1) names) (rw inside at none))
      | inr outside ↦
          let rest : members_from x (k + 1) names ≡ [] = rw outside at none in
          elim (cases_eq k j) [
            | inl here ↦ subst (λ (i : ℕ). x i ≡ false) here outside
            | inr other ↦ members_none x (k + 1) names rest j (omega arith) (omega arith)
          ]
    ]

-- a set within the names of which no name is printed is empty
pub empty_from_members : (x : Attributes) (names : List (List ℕ)) → IsSubset x (below (length names))
    → members_from x 0 names ≡ [] → IsEmpty x
empty_from_members x names within none j =
    elim (cases_Bool (x j)) [
      | inl inside ↦ members_none x 0 names none j (omega arith) (grind (arith, nat_tests, within j inside))
      | inr outside ↦ outside
    ]

nullable_line : (words : List (List ℕ)) → (words ≡ [] → ⊥)
    → codes "nullable " ++ side_text words ++ 10 ∷ [] ≡ lines_text (nullable_lines words)
unfolding nullable_lines
nullable_line [] any_written = absurd (any_written refl)
nullable_line (word ∷ words) any_written = simp (append_assoc, append-nil)

pub nullable_printed : (x : Attributes) (names : List (List ℕ)) → (members_from x 0 names ≡ [] → ⊥)
    → codes "nullable " ++ set_text names x ++ 10 ∷ [] ≡ lines_text (nullable_lines (members_from x 0 names))
unfolding set_text
nullable_printed x names any_written = nullable_line (members_from x 0 names) any_written

pub nullable_nothing : (x : Attributes) (names : List (List ℕ)) → IsEmpty x
    → lines_text (nullable_lines (members_from x 0 names)) ≡ []
unfolding nullable_lines
nullable_nothing x names none = rw (members_empty x 0 names none) refl

-- all of a set is printed
pub set_done : (names : List (List ℕ)) (x : Attributes) (before text : List ℕ) (any_written : Bool) (k : ℕ)
    → PrintsSet names x before text any_written k → length names ≤ k → text ++ rest_text any_written [] ≡ before ++ set_text names x
set_done names x before text any_written k prints past =
    let none : drop k names ≡ [] = drop_all k names past in
    rw none at prints.same

-- ---- what is added unless there is no memory
pub added_as : {T E : Type 0} (r : Result T E) (old a b new : List ℕ) → a ≡ b → OnOk r (new ≡ old ++ a) → OnOk r (new ≡ old ++ b)
added_as r old a b new same added = subst (λ (t : List ℕ). OnOk r (new ≡ old ++ t)) same added

-- parts in front of what is added last
pub added_after : {T E : Type 0} (r : Result T E) (old a t b new : List ℕ) → t ≡ old ++ a → OnOk r (new ≡ t ++ b) → OnOk r (new ≡ old ++ (a ++ b))
added_after (Ok x) old a t b new first last = last ∙ ap (λ (u : List ℕ). u ++ b) first ∙ append_assoc old a b
added_after (Err e) old a t b new first last = tt

pub added_before : {T E : Type 0} (r : Result T E) (before text a b new : List ℕ) → text ++ a ≡ before ++ b
    → OnOk r (new ≡ text ++ a) → OnOk r (new ≡ before ++ b)
added_before (Ok x) before text a b new whole last = last ∙ whole
added_before (Err e) before text a b new whole last = tt

-- an element within a list
pub slice_get-get_or : {X : Type 0} (xs : List X) (i : ℕ) (d : X) → i < length xs → slice_get xs i ≡ Some (get_or xs i d)
slice_get-get_or [] i d low = absurd (omega arith)
slice_get-get_or (x ∷ xs) zero d low = refl
slice_get-get_or (x ∷ xs) (suc i) d low = slice_get-get_or xs i d (omega arith)

-- ---- types of columns
pub same_column-is : (c d : ColumnType) → same_column c d ≡ true → c ≡ d
same_column-is Text Text same = refl
same_column-is Integer Integer same = refl
same_column-is Date Date same = refl
same_column-is Timestamp Timestamp same = refl
same_column-is (Decimal scale) (Decimal other) same = ap Decimal (eqb-true scale other same)
same_column-is Uuid Uuid same = refl
same_column-is (Other text) (Other other) same = ap Other ((bytes_eq-Decides text other).0 same)
same_column-is c d same = absurd (false≢true same)

pub integer_is : (c : ColumnType) → is_integer c ≡ true → c ≡ Integer
integer_is Integer same = refl
integer_is c same = absurd (false≢true same)

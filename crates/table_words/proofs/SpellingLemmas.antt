-- Parts are read from what spells them, one part at the front after the other.
use Rattle.std.proofs.Common.{◌≡◌, ◌<◌, ◌≤◌, ◌+◌, ◌&&◌, ◌||◌, ℕ, zero, suc, Bool, true, false, cond, not, Option, None, Some, List, [], ◌∷◌, ◌++◌, length, take, drop, nat_eq, arith, ap, sym, ◌∙◌, refl, append_assoc, length-append}
use Rattle.std.proofs.lemmas.Bool.{and_parts, ne_eqb}
use Rattle.std.proofs.Math.Seq.{take-append_seam, drop-append_seam}
use Rattle.std.specs.Prelude.{codes, nat_lt, option_map}
use Rattle.std.specs.List.{flat_map, join_by, list_all, list_any, position_or_len, starts_with}
use Rattle.schema_model.specs.Names.{quotes_doubled, quoted}
use Rattle.lexer.specs.Quotes.{is_name, undoubled}
use Rattle.lexer.proofs.Quoting.{is_quote}
use Rattle.lexer.proofs.QuotedNames.{closing_doubled, undoubled_doubled}
use Rattle.table_words.specs.declared.parts.TheConstants.{MOST_PARTS}
use Rattle.table_words.specs.Parts.{Part, before_dot, front, is_dot, led_by_front, parts_within, quoted_front, table_parts}
use Rattle.table_words.specs.Laws.{is_bare, is_part, spelling}

-- what stands behind a part
abbrev pub behind : Option (List ℕ) → List ℕ
behind None = []
behind (Some text) = 46 ∷ text

before_behind : (part : Part) (rest : Option (List ℕ)) → before_dot part (behind rest) ≡ Some (record { part = part; rest = rest })
before_behind part None = refl
before_behind part (Some text) = refl

no_quote_behind : (rest : Option (List ℕ)) → is_quote (behind rest) ≡ false
no_quote_behind None = refl
no_quote_behind (Some text) = refl

-- ---- a quoted part
quoted_part : (name : List ℕ) (rest : Option (List ℕ)) → is_name name ≡ true
    → front (quoted name ++ behind rest) ≡ Some (record { part = record { name = name; quoted = true }; rest = rest })
quoted_part name rest is =
    let doubled = quotes_doubled name in
    let text : List ℕ = doubled ++ 34 ∷ behind rest in
    let whole : quoted name ++ behind rest ≡ 34 ∷ text = ap (λ t. 34 ∷ t) (append_assoc doubled (34 ∷ []) (behind rest)) in
    let size : length (doubled ++ 34 ∷ []) ≡ length doubled + 1 = length-append doubled (34 ∷ []) in
    let left : drop (length doubled + 1) text ≡ behind rest =
    ap (λ (n : ℕ). drop n text) (sym size) ∙ ap (drop (length (doubled ++ 34 ∷ []))) (sym (append_assoc doubled (34 ∷ []) (behind rest)))
    ∙ drop-append_seam (doubled ++ 34 ∷ []) (behind rest) in
    let word : undoubled (take (length doubled) text) ≡ name =
    ap undoubled (take-append_seam doubled (34 ∷ behind rest)) ∙ undoubled_doubled name in
    ap front whole
    ∙ ap (quoted_front text) (closing_doubled name (behind rest) (no_quote_behind rest))
    ∙ rw (word, is, left) (before_behind (record { name = name; quoted = true }) rest)

-- ---- a bare part
no_quote_front : (b : ℕ) (bytes rest : List ℕ) → starts_with nat_eq (b ∷ bytes) (34 ∷ []) ≡ false
    → starts_with nat_eq ((b ∷ bytes) ++ rest) (34 ∷ []) ≡ false
no_quote_front b bytes rest e = e

up_to_dot : (bytes : List ℕ) (rest : Option (List ℕ)) → list_any is_dot bytes ≡ false
    → position_or_len is_dot (bytes ++ behind rest) ≡ length bytes
up_to_dot [] None none = refl
up_to_dot [] (Some text) none = refl
up_to_dot (b ∷ bytes) rest none = at (is_dot b) (up_to_dot bytes rest) none
  where
    at : (q : Bool) → (list_any is_dot bytes ≡ false → position_or_len is_dot (bytes ++ behind rest) ≡ length bytes)
        → (q || list_any is_dot bytes) ≡ false
        → cond (not q) (1 + position_or_len is_dot (bytes ++ behind rest)) 0 ≡ suc (length bytes)
    at true more some = cc
    at false more none = let later = more none in omega (arith, later)

bare_part : (name : List ℕ) (rest : Option (List ℕ)) → is_bare name ≡ true
    → front (name ++ behind rest) ≡ Some (record { part = record { name = name; quoted = false }; rest = rest })
bare_part [] rest is = cc
bare_part (b ∷ bytes) rest is =
    let name : List ℕ = b ∷ bytes in
    let tests = and_parts (nat_lt 0 (length name) && not (starts_with nat_eq name (34 ∷ []))) (not (list_any is_dot name)) is in
    let unquoted : starts_with nat_eq name (34 ∷ []) ≡ false = not_false (starts_with nat_eq name (34 ∷ [])) (and_parts (nat_lt 0 (length name)) (not (starts_with nat_eq name (34 ∷ []))) tests.0).1 in
    let dotless : list_any is_dot name ≡ false = not_false (list_any is_dot name) tests.1 in
    let other = no_quote_front b bytes (behind rest) unquoted in
    let end = up_to_dot name rest dotless in
    let some = ne_eqb (length name) 0 (λ same. omega (arith, same)) in
    let front_is = take-append_seam name (behind rest) in
    let left = drop-append_seam name (behind rest) in
    rw (other, end, some, front_is, left) (before_behind (record { name = name; quoted = false }) rest)
  where
    not_false : (q : Bool) → not q ≡ true → q ≡ false
    not_false true e = cc
    not_false false e = refl

pub a_part : (part : Part) (rest : Option (List ℕ)) → is_part part ≡ true
    → front (spelling part ++ behind rest) ≡ Some (record { part = part; rest = rest })
a_part part rest is = at part.quoted refl is
  where
    at : (q : Bool) → part.quoted ≡ q → (cond q (is_name part.name) (is_bare part.name)) ≡ true
        → front ((cond q (quoted part.name) part.name) ++ behind rest) ≡ Some (record { part = part; rest = rest })
    at true e named = quoted_part part.name rest named ∙ ap (λ (q : Bool). Some (record { part = record { name = part.name; quoted = q }; rest = rest })) (sym e)
    at false e bare = bare_part part.name rest bare ∙ ap (λ (q : Bool). Some (record { part = record { name = part.name; quoted = q }; rest = rest })) (sym e)

-- ---- all parts
abbrev pub spelled_on : List Part → List ℕ
spelled_on parts = flat_map (λ part. codes "." ++ spelling part) parts

read_on : (most : ℕ) (part : Part) (parts : List Part) → length parts < most → list_all is_part (part ∷ parts) ≡ true
    → parts_within most (spelling part ++ spelled_on parts) ≡ Some (part ∷ parts)
read_on zero part parts few is = absurd (omega (arith, few))
read_on (suc most) part [] few is =
    let each = and_parts (is_part part) true is in
    ap (led_by_front (parts_within most)) (a_part part None each.0)
read_on (suc most) part (other ∷ parts) few is =
    let each = and_parts (is_part part) (list_all is_part (other ∷ parts)) is in
    let rest = read_on most other parts (omega (arith, few)) each.1 in
    ap (led_by_front (parts_within most)) (a_part part (Some (spelling other ++ spelled_on parts)) each.0)
    ∙ ap (option_map (λ others. part ∷ others)) rest

pub parts_read : (parts : List Part) → 0 < length parts → length parts ≤ MOST_PARTS → list_all is_part parts ≡ true
    → table_parts (join_by spelling (codes ".") parts) ≡ Some parts
unfolding table_parts
parts_read [] some few is = absurd (omega (arith, some))
parts_read (part ∷ parts) some few is = read_on MOST_PARTS part parts (omega (arith, few)) is

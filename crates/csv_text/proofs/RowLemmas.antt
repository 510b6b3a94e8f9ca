-- The text of a row field by field, and of a quoted field byte by byte.
use Rattle.std.proofs.Common.{◌≡◌, ◌<◌, ◌+◌, ℕ, zero, suc, Bool, true, false, List, [], ◌∷◌, ◌++◌, length, get_or, take, refl, sym, ap, ◌∙◌, arith, append_assoc, append-nil}
use Rattle.std.specs.Prelude.{◌==◌, if◌then◌else◌, nat_lt}
use Rattle.std.proofs.lemmas.Bool.{eqb-true, false_from_ne_true}
use Rattle.std.proofs.lemmas.Bool.Decides.{nat_tests}
use Rattle.std.proofs.lemmas.List.{take_more}
use Rattle.csv.specs.Writing.{default_writer, escaped, field_text, fields_text, is_blank, needs_quotes, quoted, row_body}
use Rattle.dep_model.specs.Tuples.{Tuple}

-- ---- fields
fields_text-more : (row : Tuple) (value : List ℕ)
    → fields_text default_writer (row ++ value ∷ []) ≡ fields_text default_writer row ++ (44 ∷ field_text default_writer value)
unfolding fields_text
fields_text-more [] value = ap (λ (t : List ℕ). 44 ∷ t) (append-nil (field_text default_writer value))
fields_text-more (first ∷ row) value =
    ap (λ (t : List ℕ). 44 ∷ (field_text default_writer first ++ t)) (fields_text-more row value)
    ∙ ap (λ (t : List ℕ). 44 ∷ t)
    (sym (append_assoc (field_text default_writer first) (fields_text default_writer row) (44 ∷ field_text default_writer value)))

-- one field more, after a comma unless it is the first
body_more : (row : Tuple) (i : ℕ) (value : List ℕ) → i < length row
    → row_body default_writer (take i row ++ value ∷ [])
    ≡ row_body default_writer (take i row)
    ++ (if nat_lt 0 i then 44 ∷ field_text default_writer value else field_text default_writer value)
unfolding fields_text
body_more row zero value within = append-nil (field_text default_writer value)
body_more [] (suc i) value within = absurd (omega (arith, within))
body_more (first ∷ row) (suc i) value within =
    let later : true ≡ nat_lt 0 (suc i) = grind (arith, nat_tests) in
    let text = field_text default_writer first in
    ap (λ (t : List ℕ). text ++ t) (fields_text-more (take i row) value)
    ∙ sym (append_assoc text (fields_text default_writer (take i row)) (44 ∷ field_text default_writer value))
    ∙ ap (λ (b : Bool). (text ++ fields_text default_writer (take i row))
    ++ (if b then 44 ∷ field_text default_writer value else field_text default_writer value)) later

-- the fields before a position, and the one that is there
pub fields_next : (row : Tuple) (i : ℕ) (value d old before after : List ℕ)
    → i < length row → value ≡ get_or row i d → before ≡ old ++ row_body default_writer (take i row)
    → after ≡ before ++ (if nat_lt 0 i then 44 ∷ field_text default_writer value else field_text default_writer value)
    → after ≡ old ++ row_body default_writer (take (i + 1) row)
fields_next row i value d old before after within is before_is after_is =
    let last = if nat_lt 0 i then 44 ∷ field_text default_writer value else field_text default_writer value in
    after_is ∙ ap (λ (t : List ℕ). t ++ last) before_is
    ∙ append_assoc old (row_body default_writer (take i row)) last
    ∙ ap (λ (t : List ℕ). old ++ t) (sym (body_more row i value within))
    ∙ ap (λ (v : List ℕ). old ++ row_body default_writer (take i row ++ v ∷ [])) is
    ∙ ap (λ (front : Tuple). old ++ row_body default_writer front) (sym (take_more row i d within))

-- ---- whether a row shows no byte
empty_field : (value : List ℕ) → (length (field_text default_writer value) == 0) ≡ (length value == 0)
empty_field [] = refl
empty_field (byte ∷ value) = by (needs_quotes default_writer (byte ∷ value)) (quoted default_writer (byte ∷ value))
    (false_from_ne_true (length (quoted default_writer (byte ∷ value)) == 0) (λ zero_is. omega (arith, eqb-true _ _ zero_is)))
  where
    shown : (length (byte ∷ value) == 0) ≡ false
    shown = false_from_ne_true (length (byte ∷ value) == 0) (λ zero_is. omega (arith, eqb-true _ _ zero_is))

    by : (b : Bool) (between : List ℕ) → (length between == 0) ≡ false
        → (length (if b then between else byte ∷ value) == 0) ≡ (length (byte ∷ value) == 0)
    by true between long = long ∙ sym shown
    by false between long = refl

pub blank_one : (row : Tuple) (value d : List ℕ) → length row ≡ 1 → value ≡ get_or row 0 d
    → is_blank default_writer row ≡ (length value == 0)
unfolding is_blank
blank_one [] value d one is = absurd (omega (arith, one))
blank_one (first ∷ []) value d one is = empty_field first ∙ ap (λ (v : List ℕ). length v == 0) (sym is)
blank_one (first ∷ second ∷ row) value d one is = absurd (omega (arith, one))

pub blank_else : (row : Tuple) → (length row ≡ 1 → ⊥) → is_blank default_writer row ≡ (length row == 0)
unfolding is_blank
blank_else [] other = refl
blank_else (first ∷ []) other = absurd (other (omega arith))
blank_else (first ∷ second ∷ row) other =
    sym (false_from_ne_true (length (first ∷ second ∷ row) == 0) (λ zero_is. omega (arith, eqb-true _ _ zero_is)))

-- ---- the bytes between quotes
abbrev doubled : ℕ → List ℕ
doubled byte = if byte == 34 then 34 ∷ byte ∷ [] else byte ∷ []

escaped-more : (bytes : List ℕ) (byte : ℕ) → escaped default_writer (bytes ++ byte ∷ []) ≡ escaped default_writer bytes ++ doubled byte
unfolding escaped
escaped-more [] byte = refl
escaped-more (first ∷ bytes) byte =
    by (first == 34) (escaped default_writer (bytes ++ byte ∷ [])) (escaped default_writer bytes) (doubled byte) (escaped-more bytes byte)
  where
    by : (b : Bool) (whole front last : List ℕ) → whole ≡ front ++ last
        → (if b then 34 ∷ first ∷ whole else first ∷ whole) ≡ (if b then 34 ∷ first ∷ front else first ∷ front) ++ last
    by true whole front last is = ap (λ (t : List ℕ). 34 ∷ first ∷ t) is
    by false whole front last is = ap (λ (t : List ℕ). first ∷ t) is

pub no_bytes : escaped default_writer [] ≡ []
unfolding escaped
no_bytes = refl

-- the bytes before a position, and the one that is there
pub escaped-next : (bytes : List ℕ) (i byte d : ℕ) (old before after : List ℕ)
    → i < length bytes → byte ≡ get_or bytes i d → before ≡ old ++ escaped default_writer (take i bytes)
    → after ≡ before ++ (if byte == 34 then 34 ∷ byte ∷ [] else byte ∷ [])
    → after ≡ old ++ escaped default_writer (take (i + 1) bytes)
escaped-next bytes i byte d old before after within is before_is after_is =
    after_is ∙ ap (λ (t : List ℕ). t ++ doubled byte) before_is
    ∙ append_assoc old (escaped default_writer (take i bytes)) (doubled byte)
    ∙ ap (λ (t : List ℕ). old ++ t) (sym (escaped-more (take i bytes) byte))
    ∙ ap (λ (b : ℕ). old ++ escaped default_writer (take i bytes ++ b ∷ [])) is
    ∙ ap (λ (front : List ℕ). old ++ escaped default_writer front) (sym (take_more bytes i d within))

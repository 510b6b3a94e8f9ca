-- For each relation there is an engine that holds it, and that casts integers.
use Rattle.std.proofs.Common.{◌≡◌, ◌<◌, ◌-◌, ◌^◌, ℕ, zero, suc, Bool, true, false, ◌&&◌, List, [], ◌∷◌, get_or, map, Some, None, Option, refl, sym, ap, subst, ◌∙◌, inl, inr, arith}
use Rattle.std.proofs.lemmas.Bool.{cases_Bool, cases_eq, ltb-true}
use Rattle.std.proofs.lemmas.Bool.Decides.{nat_tests}
use Rattle.std.proofs.lemmas.Fmt.{decimal_nonempty, first_decimal, digits_decimal, digits_value-decimal, decimal-digits_value}
use Rattle.std.specs.Fmt.{decimal}
use Rattle.std.specs.Prelude.{ℤ, pos, negsuc, nat_eq, nat_lt, if◌then◌else◌}
use Rattle.std.specs.Str.{bytes_eq}
use Rattle.std.specs.Str.Parse.{digits_value}
use Rattle.schema_model.specs.Schemas.{Schema}
use Rattle.schema_model.specs.Integers.{IsPositiveNumeral, IsIntegerText}
use Rattle.dep_model.specs.Projections.{members_below}
use Rattle.schema_model.specs.Schemas.{width_of, universe_of}
use Rattle.dep_model.specs.Tuples.{Tuple, Relation, value_at}
use Rattle.dep_model.proofs.TwoTupleLemmas.{decimal_zero}
use Rattle.schema_model.proofs.NumeralLemmas.{decimal_numeral_model, decimal_integer}
use Rattle.sql_check.specs.Columns.{name_at}
use Rattle.sql_evaluation.specs.Cells.{Cell, text, integer_text}
use Rattle.sql_evaluation.specs.Evaluation.{Rows, Engine}
use Rattle.sql_check_laws.specs.HeldRelations.{RowsHold, AreApart, Holds, CastsIntegers}
use Rattle.sql_check_laws.proofs.CellLemmas.{is_member_of, names_on_apart}
use Rattle.sql_check_laws.proofs.ColumnLemmas.{bytes_same, bytes_self, named_cell-member}
use Rattle.sql_check_laws.proofs.GroupLemmas.{Cells}
use Rattle.sql_check_laws.proofs.RowLemmas.{none_is_not_some, some_is}

-- ---- tables
-- the values of a tuple, in the order of the attributes
abbrev cells_of_tuple : Schema → Cells → Tuple → List Cell
cells_of_tuple s cell t = map (λ k. cell k (value_at t k)) (members_below (width_of s) (universe_of s))

abbrev table_of : Schema → Cells → Relation → Rows
table_of s cell r = record {
  names = map (name_at s) (members_below (width_of s) (universe_of s));
  rows = map (cells_of_tuple s cell) r;
}

all_held : (s : Schema) (cell : Cells) (r : Relation)
    → RowsHold s cell (map (name_at s) (members_below (width_of s) (universe_of s))) (map (cells_of_tuple s cell) r) r
all_held s cell [] = tt
all_held s cell (t ∷ r) = (
  λ k low. named_cell-member (name_at s) (λ (j : ℕ). cell j (value_at t j)) (members_below (width_of s) (universe_of s)) k (names_on_apart s (universe_of s))
      (is_member_of (width_of s) (universe_of s) k low (is_in k low)),
  all_held s cell r,
)
  where
    is_in : (k : ℕ) → k < width_of s → universe_of s k ≡ true
    is_in k low = grind (arith, nat_tests, low)

-- an engine with one table
abbrev engine_of : (List ℕ → Option ℤ) → List ℕ → Rows → Engine
engine_of cast table rows = record { tables = λ name. if bytes_eq name table then Some rows else None; cast = cast }

pub engine_holds : (cast : List ℕ → Option ℤ) (table : List ℕ) (s : Schema) (cell : Cells) (r : Relation) → AreApart s cell r
    → Holds (engine_of cast table (table_of s cell r)) table s cell r
engine_holds cast table s cell r apart = record {
  given = table_of s cell r;
  known = ap (λ (b : Bool). if b then Some (table_of s cell r) else None) (bytes_self table);
  held = all_held s cell r;
  apart = apart;
}

-- ---- integers
negative : ℕ → ℤ
negative zero = pos 0
negative (suc n) = negsuc n

-- the integer that a text writes, where it writes one
value_of : List ℕ → ℤ
value_of [] = pos 0
value_of (c ∷ cs) = if nat_eq c 45 then negative (digits_value 10 cs) else pos (digits_value 10 (c ∷ cs))

in_range : ℤ → Bool
in_range (pos n) = nat_lt n (2 ^ 63)
in_range (negsuc n) = nat_lt n (2 ^ 63)

abbrev exactly : List ℕ → ℤ → Option ℤ
exactly t n = if in_range n && bytes_eq (integer_text n) t then Some n else None

-- a cast of the texts of integers, and of no other text
pub cast_of : List ℕ → Option ℤ
cast_of t = exactly t (value_of t)

exact_only : (t : List ℕ) (n m : ℤ) → exactly t n ≡ Some m → (n ≡ m) × (in_range n ≡ true)
exact_only t n m e = elim (cases_Bool (in_range n && bytes_eq (integer_text n) t)) [
  | inl right ↦ (some_is n m (sym (ap (λ (b : Bool). if b then Some n else None) right) ∙ e), grind (arith, right))
  | inr wrong ↦ absurd (none_is_not_some m (sym (ap (λ (b : Bool). if b then Some n else None) wrong) ∙ e))
]

exact_is : (t : List ℕ) (n : ℤ) → in_range n ≡ true → integer_text n ≡ t → exactly t n ≡ Some n
exact_is t n low same =
    ap (λ (b : Bool). if b && bytes_eq (integer_text n) t then Some n else None) low
    ∙ ap (λ (b : Bool). if b then Some n else None) ((bytes_same (integer_text n) t).1 same)

-- ---- their texts
range_text : (n : ℤ) → in_range n ≡ true → IsIntegerText (integer_text n)
unfolding in_range
range_text (pos n) low = decimal_integer n (ltb-true n (2 ^ 63) low)
range_text (negsuc n) low =
    let short : n < 2 ^ 63 = ltb-true n (2 ^ 63) low in
    let wide : suc n < 2 ^ 64 = omega (arith, short) in
    let first : 48 < get_or (decimal (suc n)) 0 0 = first_decimal (suc n) (omega arith) wide in
    let value : digits_value 10 (decimal (suc n)) ≡ suc n = digits_value-decimal decimal_numeral_model (suc n) wide in
    inr (inr (
      decimal (suc n),
      refl,
      record {
        not_empty = decimal_nonempty (suc n) wide;
        first = λ (e : get_or (decimal (suc n)) 0 0 ≡ 48). absurd (omega (arith, e, first));
        digits = digits_decimal decimal_numeral_model (suc n) wide;
        value = omega (arith, value, short);
      },
    ))

numeral_text : (most : ℕ) (ds : List ℕ) → most < 2 ^ 64 → IsPositiveNumeral most ds → decimal (digits_value 10 ds) ≡ ds
numeral_text most ds fits numeral =
    let value = numeral.value in
    decimal-digits_value decimal_numeral_model ds numeral.digits numeral.not_empty (λ (e : get_or ds 0 0 ≡ 48). absurd (numeral.first e)) (omega (arith, value, fits))

numeral_positive : (most : ℕ) (ds : List ℕ) → most < 2 ^ 64 → IsPositiveNumeral most ds → 0 < digits_value 10 ds
numeral_positive most ds fits numeral = elim (cases_eq (digits_value 10 ds) 0) [
  | inl none ↦ absurd (numeral.first (ap (λ (t : List ℕ). get_or t 0 0) (sym (numeral_text most ds fits numeral) ∙ ap decimal none ∙ decimal_zero)))
  | inr some ↦ omega (arith, some)
]

-- the first sign of a numeral is a digit
value_of_numeral : (most : ℕ) (ds : List ℕ) → IsPositiveNumeral most ds → value_of ds ≡ pos (digits_value 10 ds)
unfolding value_of
value_of_numeral most [] numeral = let there = numeral.not_empty in absurd (omega (arith, there))
value_of_numeral most (c ∷ cs) numeral =
    let digits = numeral.digits in
    let other : nat_eq c 45 ≡ false = grind (arith, nat_tests, digits) in
    rw other refl

pub casts_integers : CastsIntegers cast_of
unfolding cast_of in_range value_of negative
casts_integers = record { exact = to; within = from }
  where
    cast_is : (t : List ℕ) (n : ℤ) → value_of t ≡ n → in_range n ≡ true → integer_text n ≡ t → (m : ℤ) × (cast_of t ≡ Some m) × (integer_text m ≡ t)
    cast_is t n is low same = (n, ap (exactly t) is ∙ exact_is t n low same, same)

    minus : (ds : List ℕ) (v : ℕ) → v ≡ digits_value 10 ds → IsPositiveNumeral (2 ^ 63) ds → (m : ℤ) × (cast_of (45 ∷ ds) ≡ Some m) × (integer_text m ≡ 45 ∷ ds)
    minus ds zero is numeral = let more = numeral_positive (2 ^ 63) ds (omega arith) numeral in absurd (omega (arith, is, more))
    minus ds (suc n) is numeral =
        let most = numeral.value in
        cast_is (45 ∷ ds) (negsuc n) (ap negative (sym is)) (grind (arith, nat_tests, is, most))
        (ap (λ (v : ℕ). 45 ∷ decimal v) is ∙ ap (λ (t : List ℕ). 45 ∷ t) (numeral_text (2 ^ 63) ds (omega arith) numeral))

    to : (t : List ℕ) → IsIntegerText t → (n : ℤ) × (cast_of t ≡ Some n) × (integer_text n ≡ t)
    to t (inl zero_is) = cast_is t (pos 0) (ap value_of zero_is) refl (decimal_zero ∙ sym zero_is)
    to t (inr (inl numeral)) =
        let most = numeral.value in
        cast_is t (pos (digits_value 10 t)) (value_of_numeral (2 ^ 63 - 1) t numeral) (grind (arith, nat_tests, most)) (numeral_text (2 ^ 63 - 1) t (omega arith) numeral)
    to t (inr (inr (ds, is, numeral))) =
        subst (λ (text : List ℕ). (m : ℤ) × (cast_of text ≡ Some m) × (integer_text m ≡ text)) (sym is) (minus ds (digits_value 10 ds) refl numeral)

    from : (t : List ℕ) (n : ℤ) → cast_of t ≡ Some n → IsIntegerText (integer_text n)
    from t n e = let only = exact_only t (value_of t) n e in subst (λ (m : ℤ). IsIntegerText (integer_text m)) only.0 (range_text (value_of t) only.1)

-- ---- the law
pub some_engine_holds : (table : List ℕ) (s : Schema) (cell : Cells) (r : Relation) → AreApart s cell r
    → (e : Engine) × CastsIntegers e.cast × Holds e table s cell r
some_engine_holds table s cell r apart = (engine_of cast_of table (table_of s cell r), casts_integers, engine_holds cast_of table s cell r apart)

bytes_in : Cell → List ℕ
bytes_in (text t) = t
bytes_in c = []

texts_apart : (s : Schema) (r : Relation) → AreApart s (λ k v. text v) r
unfolding bytes_in
texts_apart s r k low t u ht hu same = ap bytes_in same

pub some_engine_holds_texts : (table : List ℕ) (s : Schema) (r : Relation)
    → (e : Engine) × CastsIntegers e.cast × Holds e table s (λ k v. text v) r
some_engine_holds_texts table s r = some_engine_holds table s (λ k v. text v) r (texts_apart s r)

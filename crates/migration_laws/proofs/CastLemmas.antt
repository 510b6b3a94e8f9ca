-- The texts of integers of 64 bits are cast to these, and nothing else is.
use Rattle.std.proofs.Common.{◌≡◌, ◌<◌, ◌≤◌, ◌-◌, ◌^◌, ◌&&◌, ◌==◌, ℕ, zero, suc, Bool, true, false, List, [], ◌∷◌, length, get_or, Some, None, refl, sym, ap, subst, ◌∙◌, inl, inr, arith}
use Rattle.std.proofs.lemmas.Bool.{cases_eq, and_parts}
use Rattle.std.proofs.lemmas.Bool.Decides.{nat_tests}
use Rattle.std.proofs.lemmas.Fmt.{decimal_nonempty, first_decimal, digits_decimal, digits_value-decimal, decimal-digits_value}
use Rattle.std.specs.Prelude.{ℤ, pos, negsuc, decimal, if◌then◌else◌}
use Rattle.std.specs.Char.{is_ascii_digit}
use Rattle.std.specs.List.{list_all}
use Rattle.std.specs.Str.{bytes_eq}
use Rattle.std.specs.Str.Parse.{digits_value}
use Rattle.dep_model.proofs.TwoTupleLemmas.{decimal_zero}
use Rattle.schema_model.specs.Integers.{IsPositiveNumeral, IsIntegerText}
use Rattle.schema_model.proofs.NumeralLemmas.{decimal_numeral_model, decimal_integer}
use Rattle.sql_evaluation.specs.Cells.{integer_text}
use Rattle.sql_check_laws.specs.HeldRelations.{CastsIntegers}
use Rattle.sql_check_laws.proofs.ColumnLemmas.{bytes_same}
use Rattle.sql_check_laws.proofs.RowLemmas.{some_is}
use Rattle.sql_migrate_laws.proofs.StepLemmas.{when_some}
use Rattle.migration_laws.specs.Casting.{negative, integer_of_text, has_64_bits, cast_of_integers}

-- a text is cast to an integer of 64 bits that it is the text of
cast_is : (t : List ℕ) (n : ℤ) → integer_of_text t ≡ n → has_64_bits n ≡ true → integer_text n ≡ t → cast_of_integers t ≡ Some n
cast_is t n is fits text =
    ap (λ (m : ℤ). if has_64_bits m && bytes_eq (integer_text m) t then Some m else None) is
    ∙ ap (λ (b : Bool). if b && bytes_eq (integer_text n) t then Some n else None) fits
    ∙ ap (λ (b : Bool). if b then Some n else None) ((bytes_same (integer_text n) t).1 text)

-- ---- numerals
numeral_text : (most : ℕ) (bytes : List ℕ) → most < 2 ^ 64 → IsPositiveNumeral most bytes → decimal (digits_value 10 bytes) ≡ bytes
numeral_text most bytes small n =
    decimal-digits_value decimal_numeral_model bytes n.digits n.not_empty (λ e. absurd (n.first e)) (omega (arith, n.value, small))

-- its value is not zero
numeral_not_zero : (most : ℕ) (bytes : List ℕ) → most < 2 ^ 64 → IsPositiveNumeral most bytes → 0 < digits_value 10 bytes
numeral_not_zero most bytes small n = elim (cases_eq (digits_value 10 bytes) 0) [
  | inl none ↦
      let is : bytes ≡ 48 ∷ [] = sym (numeral_text most bytes small n) ∙ ap decimal none ∙ decimal_zero in
      absurd (n.first (ap (λ (bs : List ℕ). get_or bs 0 0) is))
  | inr other ↦ omega (arith, other)
]

digits_read : (t : List ℕ) → list_all is_ascii_digit t ≡ true → 0 < length t → integer_of_text t ≡ pos (digits_value 10 t)
digits_read [] digits some = absurd (omega (arith, some))
digits_read (b ∷ bytes) digits some =
    let first = (and_parts (is_ascii_digit b) (list_all is_ascii_digit bytes) digits).0 in
    let no_sign : (b == 45) ≡ false = grind (arith, nat_tests, first) in
    ap (λ (sign : Bool). if sign then negative (digits_value 10 bytes) else pos (digits_value 10 (b ∷ bytes))) no_sign

negative_text : (v : ℕ) → 0 < v → integer_text (negative v) ≡ 45 ∷ decimal v
negative_text zero some = absurd (omega (arith, some))
negative_text (suc n) some = refl

negative_fits : (v : ℕ) → 0 < v → v ≤ 2 ^ 63 → has_64_bits (negative v) ≡ true
negative_fits zero some small = absurd (omega (arith, some))
negative_fits (suc n) some small = let low : n < 2 ^ 63 = omega (arith, small) in grind (arith, nat_tests, low)

-- ---- texts of integers
abbrev IsCastTo : List ℕ → Type 0
IsCastTo t = (n : ℤ) × (cast_of_integers t ≡ Some n) × (integer_text n ≡ t)

exact : (t : List ℕ) → IsIntegerText t → IsCastTo t
exact t (inl zero_is) =
    let value : digits_value 10 (48 ∷ []) ≡ 0 = ap (digits_value 10) (sym decimal_zero) ∙ digits_value-decimal decimal_numeral_model 0 (omega arith) in
    let read : integer_of_text (48 ∷ []) ≡ pos 0 = ap pos value in
    let low : 0 < 2 ^ 63 = omega arith in
    subst (λ (bytes : List ℕ). (n : ℤ) × (cast_of_integers bytes ≡ Some n) × (integer_text n ≡ bytes)) (sym zero_is)
    (pos 0, cast_is (48 ∷ []) (pos 0) read (grind (arith, nat_tests, low)) decimal_zero, decimal_zero)
exact t (inr (inl n)) =
    let value = digits_value 10 t in
    let most : 2 ^ 63 - 1 < 2 ^ 64 = omega arith in
    let text = numeral_text (2 ^ 63 - 1) t most n in
    let low : value < 2 ^ 63 = omega (arith, n.value) in
    (pos value, cast_is t (pos value) (digits_read t n.digits n.not_empty) (grind (arith, nat_tests, low)) text, text)
exact t (inr (inr (digits, is, n))) =
    let value = digits_value 10 digits in
    let most : 2 ^ 63 < 2 ^ 64 = omega arith in
    let some = numeral_not_zero (2 ^ 63) digits most n in
    let text : integer_text (negative value) ≡ 45 ∷ digits = negative_text value some ∙ ap (λ (bs : List ℕ). 45 ∷ bs) (numeral_text (2 ^ 63) digits most n) in
    subst (λ (bytes : List ℕ). (m : ℤ) × (cast_of_integers bytes ≡ Some m) × (integer_text m ≡ bytes)) (sym is)
    (negative value, cast_is (45 ∷ digits) (negative value) refl (negative_fits value some n.value) text, text)

-- an integer of 64 bits has such a text
integer_fits : (n : ℤ) → has_64_bits n ≡ true → IsIntegerText (integer_text n)
integer_fits (pos n) fits = let low : n < 2 ^ 63 = grind (arith, nat_tests, fits) in decimal_integer n low
integer_fits (negsuc m) fits =
    let low : m < 2 ^ 63 = grind (arith, nat_tests, fits) in
    let wide : suc m < 2 ^ 64 = omega (arith, low) in
    let first = first_decimal (suc m) (omega arith) wide in
    let value = digits_value-decimal decimal_numeral_model (suc m) wide in
    inr (inr (
      decimal (suc m),
      refl,
      record {
        not_empty = decimal_nonempty (suc m) wide;
        first = λ (e : get_or (decimal (suc m)) 0 0 ≡ 48). absurd (omega (arith, e, first));
        digits = digits_decimal decimal_numeral_model (suc m) wide;
        value = omega (arith, value, low);
      },
    ))

pub casts_integers : CastsIntegers cast_of_integers
casts_integers = record {
  exact = exact;
  within = λ t n e.
      let m = integer_of_text t in
      let found = when_some (has_64_bits m && bytes_eq (integer_text m) t) (Some m) n e in
      subst (λ (i : ℤ). IsIntegerText (integer_text i)) (some_is m n found.1)
      (integer_fits m (and_parts (has_64_bits m) (bytes_eq (integer_text m) t) found.0).0);
}

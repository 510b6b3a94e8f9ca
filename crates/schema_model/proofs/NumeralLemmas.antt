-- The value of a numeral and of its front; and a number in decimal as an integer text.
use Rattle.std.proofs.Common.{◌≡◌, inl, inr, ℕ, ◌+◌, ◌*◌, ◌-◌, ◌^◌, ◌<◌, ◌≤◌, true, get_or, List, ◌++◌, length, map, take, drop, ap, subst, ◌∙◌, arith}
use Rattle.std.specs.Char.{digit_value, is_ascii_digit}
use Rattle.std.specs.Int.Digits.{number_from_digits_after}
use Rattle.std.specs.Str.Parse.{digits_value}
use Rattle.std.proofs.lemmas.Int.Digits.{digits_value_is, digits_value_more, number_after_append, number_after_ge}
use Rattle.std.proofs.lemmas.Bool.{cases_eq}
use Rattle.std.proofs.lemmas.Bool.Decides.{nat_tests}
use Rattle.std.proofs.lemmas.List.{take-append-drop, map-append}
use Rattle.std.proofs.lemmas.Fmt.{decimal_nonempty, first_decimal, digits_decimal, digits_value-decimal}
use Rattle.std.proofs.lemmas.Str.Parse.{IsNumeralModel, IsDigitsTest, numerals_by_value}
use borrow.Author.Rules.{rules}
use Rattle.std.specs.List.{list_all}
use Rattle.std.specs.Prelude.{decimal}
use Rattle.schema_model.specs.Integers.{IsIntegerText}
use Rattle.dep_model.proofs.TwoTupleLemmas.{decimal_zero}

-- more digits give no smaller value
pub digits_value-append : (front rest : List ℕ) → digits_value 10 front ≤ digits_value 10 (front ++ rest)
digits_value-append front rest =
    rw (digits_value_is 10 front, digits_value_is 10 (front ++ rest), map-append digit_value front rest, number_after_append 10 0 (map digit_value front) (map digit_value rest))
    (number_after_ge 10 (number_from_digits_after 10 0 (map digit_value front)) (map digit_value rest) (omega arith))

pub digits_value-take : (bytes : List ℕ) (n : ℕ) → digits_value 10 (take n bytes) ≤ digits_value 10 bytes
digits_value-take bytes n = subst (λ (all : List ℕ). digits_value 10 (take n bytes) ≤ digits_value 10 all) (take-append-drop n bytes) (digits_value-append (take n bytes) (drop n bytes))

digit_value-digit : (c : ℕ) → is_ascii_digit c ≡ true → digit_value c ≡ c - 48
digit_value-digit c h = grind (arith, nat_tests)

-- one digit more
pub digits_value-next : (bytes : List ℕ) (i : ℕ) → i < length bytes → is_ascii_digit (get_or bytes i 0) ≡ true
    → digits_value 10 (take (i + 1) bytes) ≡ digits_value 10 (take i bytes) * 10 + (get_or bytes i 0 - 48)
digits_value-next bytes i short digit =
    digits_value_more 10 bytes i short ∙ ap (λ (d : ℕ). digits_value 10 (take i bytes) * 10 + d) (digit_value-digit (get_or bytes i 0) digit)

pub digits_value-model : IsDigitsTest (λ ds. list_all is_ascii_digit ds ≡ true)
digits_value-model = search rules

pub decimal_numeral_model : IsNumeralModel (λ ds. list_all is_ascii_digit ds ≡ true) (digits_value 10)
decimal_numeral_model = numerals_by_value (λ ds. list_all is_ascii_digit ds ≡ true) digits_value-model

-- a number in decimal is an integer text, where an integer of 64 bits has its value
pub decimal_integer : (v : ℕ) → v < 2 ^ 63 → IsIntegerText (decimal v)
decimal_integer v fits = elim (cases_eq v 0) [
  | inl none ↦ inl (ap decimal none ∙ decimal_zero)
  | inr other ↦
      let wide : v < 2 ^ 64 = omega (arith, fits) in
      let first : 48 < get_or (decimal v) 0 0 = first_decimal v (omega (arith, other)) wide in
      let value : digits_value 10 (decimal v) ≡ v = digits_value-decimal decimal_numeral_model v wide in
      inr (inl (record {
        not_empty = decimal_nonempty v wide;
        first = λ (e : get_or (decimal v) 0 0 ≡ 48). absurd (omega (arith, e, first));
        digits = digits_decimal decimal_numeral_model v wide;
        value = omega (arith, value, fits);
      }))
]

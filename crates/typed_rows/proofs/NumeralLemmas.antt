-- Numerals: the number of each, and that the two tuples and their like hold numerals.
use Rattle.std.proofs.Common.{◌≡◌, ℕ, ◌+◌, ◌*◌, ◌-◌, ◌<◌, ◌≤◌, true, false, List, [], ◌∷◌, length, get_or, take, sym, ap, subst, ◌∙◌, cond, Bool, arith}
use Rattle.std.specs.Prelude.{slice_index_or}
use Rattle.std.specs.Char.{is_ascii_digit}
use Rattle.std.specs.List.{list_all, range_with_len}
use Rattle.std.specs.Fmt.{decimal}
use Rattle.std.specs.Str.Parse.{digits_value}
use Rattle.std.proofs.lemmas.Bool.Decides.{nat_tests}
use Rattle.std.proofs.lemmas.Fmt.{decimal_digit, digits_value-decimal, digits_decimal}
use Rattle.std.proofs.lemmas.List.Elements.{All-nil, All-cons, All-map, All-replicate}
use Rattle.std.proofs.lemmas.List.Sums.{AllPass-from_list_all}
use Rattle.attr_sets.specs.Attributes.{Attributes}
use Rattle.dep_model.specs.TwoTuples.{zero_text, one_text, all_zeros, zeros_on, two_tuples}
use Rattle.dep_model.proofs.TwoTupleLemmas.{decimal_zero}
use Rattle.schema_model.proofs.NumeralLemmas.{decimal_numeral_model, digits_value-next, digits_value-take}
use Rattle.typed_rows.specs.Typed.{IsNumeral, AreNumerals, HoldsNumerals}

-- the number that the digits of a numeral write is the number
pub value_is : (bytes : List ℕ) (h : IsNumeral bytes) → digits_value 10 bytes ≡ h.number
value_is bytes h =
    ap (digits_value 10) h.text ∙ digits_value-decimal decimal_numeral_model h.number (omega (arith, h.small))

pub value_small : (bytes : List ℕ) → IsNumeral bytes → digits_value 10 bytes < 1000000
value_small bytes h = omega (arith, value_is bytes h, h.small)

pub text_is : (bytes : List ℕ) → IsNumeral bytes → decimal (digits_value 10 bytes) ≡ bytes
text_is bytes h = ap decimal (value_is bytes h) ∙ sym h.text

-- numerals of one number are equal
pub same_numeral : (v w : List ℕ) → IsNumeral v → IsNumeral w → digits_value 10 v ≡ digits_value 10 w → v ≡ w
same_numeral v w v_is w_is e = sym (text_is v v_is) ∙ ap decimal e ∙ text_is w w_is

pub digit_of : (bytes : List ℕ) (i : ℕ) → IsNumeral bytes → i < length bytes → is_ascii_digit (get_or bytes i 0) ≡ true
digit_of bytes i h short =
    let digits : list_all is_ascii_digit bytes ≡ true =
    subst (λ (bs : List ℕ). list_all is_ascii_digit bs ≡ true) (sym h.text) (digits_decimal decimal_numeral_model h.number (omega (arith, h.small))) in
    AllPass-from_list_all is_ascii_digit bytes digits i 0 short

-- ---- the two tuples
decimal_one : decimal 1 ≡ one_text
decimal_one = decimal_digit 1 (omega arith)

pub zero_is_numeral : IsNumeral zero_text
zero_is_numeral = record { number = 0; small = omega arith; text = sym decimal_zero }

one_is_numeral : IsNumeral one_text
one_is_numeral = record { number = 1; small = omega arith; text = sym decimal_one }

choice_is_numeral : (b : Bool) → IsNumeral (cond b zero_text one_text)
choice_is_numeral b = elim b as (λ v. IsNumeral (cond v zero_text one_text)) [ true ↦ zero_is_numeral | false ↦ one_is_numeral ]

pub zeros_are_numerals : (n : ℕ) → AreNumerals (all_zeros n)
unfolding all_zeros
zeros_are_numerals n = All-replicate IsNumeral n zero_text zero_is_numeral

choices_are_numerals : (n : ℕ) (x : Attributes) → AreNumerals (zeros_on n x)
unfolding zeros_on
choices_are_numerals n x =
    All-map IsNumeral (λ (k : ℕ). cond (x k) zero_text one_text) (range_with_len 0 n)
    (λ k d short. choice_is_numeral (x (slice_index_or (range_with_len 0 n) k d)))

pub two_tuples_hold : (n : ℕ) (x : Attributes) → HoldsNumerals (two_tuples n x)
unfolding two_tuples
two_tuples_hold n x =
    All-cons AreNumerals (all_zeros n) (zeros_on n x ∷ []) (zeros_are_numerals n)
    (All-cons AreNumerals (zeros_on n x) [] (choices_are_numerals n x) (All-nil AreNumerals))

-- ---- reading a numeral
pub front_small : (bytes : List ℕ) (i : ℕ) → IsNumeral bytes → digits_value 10 (take i bytes) < 1000000
front_small bytes i h = omega (arith, digits_value-take bytes i, value_small bytes h)

pub front_more : (bytes : List ℕ) (i : ℕ) → IsNumeral bytes → i < length bytes
    → digits_value 10 (take (i + 1) bytes) ≡ digits_value 10 (take i bytes) * 10 + (get_or bytes i 0 - 48)
front_more bytes i h short = digits_value-next bytes i short (digit_of bytes i h short)

digit_low : (b : ℕ) → is_ascii_digit b ≡ true → 48 ≤ b
digit_low b digit = grind (arith, nat_tests)

pub digit_from : (bytes : List ℕ) (i : ℕ) → IsNumeral bytes → i < length bytes → 48 ≤ get_or bytes i 0
digit_from bytes i h short = digit_low (get_or bytes i 0) (digit_of bytes i h short)

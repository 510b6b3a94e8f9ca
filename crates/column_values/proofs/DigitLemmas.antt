-- Numbers in a fixed count of digits: how long their texts are, and that a text has one number; and
-- lists that are cut at the same place.
use Rattle.std.proofs.Common.{◌≡◌, ℕ, zero, suc, ◌+◌, ◌*◌, ◌-◌, ◌/◌, ◌%◌, ◌^◌, ◌<◌, ◌≤◌, true, false, List, [], ◌∷◌, ◌++◌, length, get_or, take, drop, refl, sym, ap, ◌∙◌, add-one, length-append, arith}
use Rattle.std.specs.Char.{is_ascii_digit}
use Rattle.std.specs.List.{list_all}
use Rattle.std.proofs.Math.Nat.{pow-suc, pow-le-pow_right}
use Rattle.std.proofs.Math.Seq.{take-append_seam, drop-append_seam}
use Rattle.std.proofs.lemmas.Bool.{true≢false}
use Rattle.std.proofs.lemmas.Bool.Decides.{nat_tests}
use Rattle.std.proofs.lemmas.List.{take_more}
use Rattle.std.proofs.lemmas.List.Folds.{list_all-append, list_all_at}
use Rattle.column_values.specs.Digits.{in_digits}

-- ---- lists that are cut at the same place
pub record SameParts (front rest other_front other_rest : List ℕ) : Type 0 where
  pub fronts : front ≡ other_front
  pub rests : rest ≡ other_rest

pub same_parts : (front rest other_front other_rest : List ℕ) → length front ≡ length other_front
    → front ++ rest ≡ other_front ++ other_rest → SameParts front rest other_front other_rest
same_parts front rest other_front other_rest counted e = record {
  fronts = sym (take-append_seam front rest) ∙ ap (take (length front)) e
      ∙ ap (λ (n : ℕ). take n (other_front ++ other_rest)) counted ∙ take-append_seam other_front other_rest;
  rests = sym (drop-append_seam front rest) ∙ ap (drop (length front)) e
      ∙ ap (λ (n : ℕ). drop n (other_front ++ other_rest)) counted ∙ drop-append_seam other_front other_rest;
}

-- the same beside separators
pub same_cut : (separator : ℕ) (front rest other_front other_rest : List ℕ) → length front ≡ length other_front
    → front ++ separator ∷ rest ≡ other_front ++ separator ∷ other_rest
    → SameParts front rest other_front other_rest
same_cut separator front rest other_front other_rest counted e =
    let parts : SameParts front (separator ∷ rest) other_front (separator ∷ other_rest) =
    same_parts front (separator ∷ rest) other_front (separator ∷ other_rest) counted e in
    record { fronts = parts.fronts; rests = let rests = parts.rests in cc }

-- ---- numbers in digits
pub length-in_digits : (count number : ℕ) → length (in_digits count number) ≡ count
unfolding in_digits
length-in_digits zero number = refl
length-in_digits (suc count) number =
    omega (arith, length-append (in_digits count (number / 10)) ((48 + number % 10) ∷ []), length-in_digits count (number / 10))

digit_is_ascii : (d : ℕ) → d < 10 → is_ascii_digit (48 + d) ≡ true
digit_is_ascii d small = grind (arith, nat_tests)

pub list_all-in_digits : (count number : ℕ) → list_all is_ascii_digit (in_digits count number) ≡ true
unfolding in_digits
list_all-in_digits zero number = refl
list_all-in_digits (suc count) number =
    let small : number % 10 < 10 = omega arith in
    rw (list_all-append is_ascii_digit (in_digits count (number / 10)) ((48 + number % 10) ∷ []), list_all-in_digits count (number / 10), digit_is_ascii (number % 10) small)
    refl

pub in_digits_none : (number : ℕ) → [] ≡ in_digits 0 number
unfolding in_digits
in_digits_none number = refl

in_digits_suc : (count number : ℕ) → in_digits count (number / 10) ++ (48 + number % 10) ∷ [] ≡ in_digits (count + 1) number
unfolding in_digits
in_digits_suc count number = rw add-one refl

-- the last digit and those before it
pub in_digits_last : (count number : ℕ) → 0 < count
    → in_digits (count - 1) (number / 10) ++ (48 + number % 10) ∷ [] ≡ in_digits count number
in_digits_last count number some =
    let count_is : count - 1 + 1 ≡ count = omega arith in
    in_digits_suc (count - 1) number ∙ ap (λ (n : ℕ). in_digits n number) count_is

-- one digit more
pub in_digits_more : (count number d : ℕ) → d < 10
    → in_digits (count + 1) (number * 10 + d) ≡ in_digits count number ++ (48 + d) ∷ []
unfolding in_digits
in_digits_more count number d small =
    let front : (number * 10 + d) / 10 ≡ number = omega arith in
    let last : (number * 10 + d) % 10 ≡ d = omega arith in
    rw (add-one, front, last) refl

-- a text of so many digits has one number
pub in_digits-injective : (count m n : ℕ) → m < 10 ^ count → n < 10 ^ count
    → in_digits count m ≡ in_digits count n → m ≡ n
unfolding in_digits
in_digits-injective zero m n m_fits n_fits e = omega (arith, m_fits, n_fits)
in_digits-injective (suc count) m n m_fits n_fits e =
    let counted : length (in_digits count (m / 10)) ≡ length (in_digits count (n / 10)) =
    length-in_digits count (m / 10) ∙ sym (length-in_digits count (n / 10)) in
    let parts : SameParts (in_digits count (m / 10)) ((48 + m % 10) ∷ []) (in_digits count (n / 10)) ((48 + n % 10) ∷ []) =
    same_parts (in_digits count (m / 10)) ((48 + m % 10) ∷ []) (in_digits count (n / 10)) ((48 + n % 10) ∷ []) counted e in
    let last : 48 + m % 10 ≡ 48 + n % 10 = ap (λ (ds : List ℕ). get_or ds 0 0) parts.rests in
    let m_front : m / 10 < 10 ^ count = omega (arith, m_fits, pow-suc 10 count) in
    let n_front : n / 10 < 10 ^ count = omega (arith, n_fits, pow-suc 10 count) in
    omega (arith, last, in_digits-injective count (m / 10) (n / 10) m_front n_front parts.fronts)

-- what is no digit is in no such text
pub no_digit_no_number : (digits : List ℕ) (i number : ℕ) → i < length digits
    → is_ascii_digit (get_or digits i 0) ≡ false → digits ≡ in_digits (length digits) number → ⊥
no_digit_no_number digits i number short other e =
    true≢false (sym (ap (list_all is_ascii_digit) e ∙ list_all-in_digits (length digits) number) ∙ list_all_at is_ascii_digit digits i 0 short other)

-- ---- reading a number
digit_small : (b : ℕ) → is_ascii_digit b ≡ true → b - 48 < 10
digit_small b digit = grind (arith, nat_tests)

digit_again : (b : ℕ) → is_ascii_digit b ≡ true → 48 + (b - 48) ≡ b
digit_again b digit = grind (arith, nat_tests)

pub next_fits : (i number b : ℕ) → is_ascii_digit b ≡ true → number < 10 ^ i → number * 10 + (b - 48) < 10 ^ (i + 1)
next_fits i number b digit fits = rw add-one (omega (arith, fits, pow-suc 10 i, digit_small b digit))

pub next_wide : (i number b : ℕ) → is_ascii_digit b ≡ true → number < 10 ^ i → i < 15 → number * 10 + (b - 48) < 2 ^ 64
next_wide i number b digit fits few =
    let short : i + 1 ≤ 15 = omega (arith, few) in
    let bound : 10 ^ (i + 1) ≤ 10 ^ 15 = pow-le-pow_right {n = 10} (omega arith) short in
    omega (arith, next_fits i number b digit fits, bound)

pub next_text : (digits : List ℕ) (i number : ℕ) → i < length digits → is_ascii_digit (get_or digits i 0) ≡ true
    → take i digits ≡ in_digits i number
    → take (i + 1) digits ≡ in_digits (i + 1) (number * 10 + (get_or digits i 0 - 48))
next_text digits i number short digit text =
    take_more digits i 0 short
    ∙ ap (λ (front : List ℕ). front ++ get_or digits i 0 ∷ []) text
    ∙ ap (λ (b : ℕ). in_digits i number ++ b ∷ []) (sym (digit_again (get_or digits i 0) digit))
    ∙ sym (in_digits_more i number (get_or digits i 0 - 48) (digit_small (get_or digits i 0) digit))

-- what follows a number that is read
pub number_rest : (separator count number other : ℕ) (rest other_rest : List ℕ)
    → in_digits count number ++ separator ∷ rest ≡ in_digits count other ++ separator ∷ other_rest
    → rest ≡ other_rest
number_rest separator count number other rest other_rest e =
    (same_cut separator (in_digits count number) rest (in_digits count other) other_rest
    (length-in_digits count number ∙ sym (length-in_digits count other)) e).rests

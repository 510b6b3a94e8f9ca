-- Whole numbers, zeros and the texts of decimal numbers.
use Rattle.std.proofs.Common.{◌≡◌, ℕ, zero, suc, ◌-◌, ◌^◌, ◌<◌, ◌≤◌, true, false, nat_eq, List, [], ◌∷◌, ◌++◌, length, get_or, drop, replicate, refl, sym, ap, subst, ◌∙◌, inl, inr, length-append, append-nil, add-one, arith}
use Rattle.std.specs.Char.{is_ascii_digit}
use Rattle.std.specs.List.{list_all}
use Rattle.std.specs.Fmt.{decimal}
use Rattle.std.specs.Str.Parse.{digits_value}
use Rattle.std.specs.Prelude.{Option, Some, None, IfSome, IfNone, is_some}
use Rattle.std.proofs.Math.Nat.{pow-le-pow_right, one-le-pow}
use Rattle.std.proofs.Math.ListN.{get_or-append}
use Rattle.std.proofs.lemmas.Bool.{cases_eq, eqb-true, and_parts, false≢true}
use Rattle.std.proofs.lemmas.Bool.Decides.{nat_tests}
use Rattle.std.proofs.lemmas.Fmt.{decimal_injective, decimal-digits_value, decimal_nonempty, first_decimal, digits_decimal, length-decimal-le}
use Rattle.std.proofs.lemmas.List.{replicate-append-replicate}
use Rattle.std.proofs.lemmas.List.Sums.{AllPass-from_list_all}
use Rattle.std.proofs.lemmas.Str.Parse.{digits_value_short}
use Rattle.schema_model.specs.declared.column_type.TheConstants.{MOST_SCALE}
use Rattle.dep_model.proofs.TwoTupleLemmas.{decimal_zero}
use Rattle.schema_model.proofs.NumeralLemmas.{decimal_numeral_model}
use Rattle.column_values.specs.Digits.{in_digits}
use Rattle.column_values.specs.Decimals.{point_and_digits, decimal_text, IsWhole, IsUnsignedDecimal}
use Rattle.column_values.proofs.DigitLemmas.{SameParts, same_cut, length-in_digits, in_digits-injective}

-- ---- whole numbers
pub whole_fits : (most n : ℕ) → most ≤ 15 → n < 10 ^ most → n < 2 ^ 64
whole_fits most n few fits =
    let bound : 10 ^ most ≤ 10 ^ 15 = pow-le-pow_right {n = 10} (omega arith) few in
    omega (arith, fits, bound)

pub whole_from : (most : ℕ) (bytes : List ℕ) → most ≤ 15 → 0 < length bytes → length bytes ≤ most
    → (get_or bytes 0 0 ≡ 48 → length bytes ≡ 1) → list_all is_ascii_digit bytes ≡ true → IsWhole most bytes
whole_from most bytes few some short first digits =
    let fits : digits_value 10 bytes < 10 ^ most = digits_value_short decimal_numeral_model bytes most digits short in
    record {
      number = digits_value 10 bytes;
      fits = fits;
      text = sym (decimal-digits_value decimal_numeral_model bytes digits some first (whole_fits most (digits_value 10 bytes) few fits));
    }

whole_some : (n most : ℕ) → most ≤ 15 → n < 10 ^ most → 0 < length (decimal n)
whole_some n most few fits = decimal_nonempty n (whole_fits most n few fits)

-- what holds of a whole number's text
pub record IsWholeText (most : ℕ) (bytes : List ℕ) : Type 0 where
  pub some : 0 < length bytes
  pub short : length bytes ≤ most
  pub first : get_or bytes 0 0 ≡ 48 → length bytes ≡ 1
  pub digits : list_all is_ascii_digit bytes ≡ true

first_zero : (n : ℕ) → n < 2 ^ 64 → get_or (decimal n) 0 0 ≡ 48 → length (decimal n) ≡ 1
first_zero n wide e = elim (cases_eq n 0) [
  | inl none ↦ ap (λ (m : ℕ). length (decimal m)) none ∙ ap length decimal_zero
  | inr other ↦ absurd (omega (arith, e, first_decimal n (omega (arith, other)) wide))
]

pub whole_to : (most : ℕ) (bytes : List ℕ) → 0 < most → most ≤ 15 → IsWhole most bytes → IsWholeText most bytes
whole_to most bytes any few h =
    let wide : h.number < 2 ^ 64 = whole_fits most h.number few h.fits in
    subst (IsWholeText most) (sym h.text) (record {
      some = decimal_nonempty h.number wide;
      short = length-decimal-le most h.number any h.fits wide;
      first = first_zero h.number wide;
      digits = digits_decimal decimal_numeral_model h.number wide;
    })

-- ---- zeros
pub zero_text_is : (scale : ℕ) → decimal_text scale 0 0 ≡ 48 ∷ point_and_digits scale 0
zero_text_is scale = ap (λ (ds : List ℕ). ds ++ point_and_digits scale 0) decimal_zero

is_replicated : (bytes : List ℕ) → list_all (λ b. nat_eq b 48) bytes ≡ true → bytes ≡ replicate (length bytes) 48
is_replicated [] h = refl
is_replicated (b ∷ bytes) h =
    let parts = and_parts (nat_eq b 48) (list_all (λ c. nat_eq c 48) bytes) h in
    ap (λ (c : ℕ). c ∷ bytes) (eqb-true b 48 parts.0) ∙ ap (λ (rest : List ℕ). 48 ∷ rest) (is_replicated bytes parts.1)

all_zero : (count : ℕ) → list_all (λ b. nat_eq b 48) (replicate count 48) ≡ true
all_zero zero = refl
all_zero (suc count) = all_zero count

zero_digits_are : (count : ℕ) → in_digits count 0 ≡ replicate count 48
unfolding in_digits
zero_digits_are zero = refl
zero_digits_are (suc count) =
    ap (λ (front : List ℕ). front ++ 48 ∷ []) (zero_digits_are count)
    ∙ replicate-append-replicate count 1 48 ∙ ap (λ (n : ℕ). replicate n 48) (add-one count)

pub zeros_from : (bytes : List ℕ) (count : ℕ) → length bytes ≡ count → list_all (λ b. nat_eq b 48) bytes ≡ true → bytes ≡ in_digits count 0
zeros_from bytes count counted zeros =
    is_replicated bytes zeros ∙ ap (λ (n : ℕ). replicate n 48) counted ∙ sym (zero_digits_are count)

pub zeros_to : (bytes : List ℕ) (count : ℕ) → bytes ≡ in_digits count 0 → list_all (λ b. nat_eq b 48) bytes ≡ true
zeros_to bytes count e =
    ap (list_all (λ b. nat_eq b 48)) (e ∙ zero_digits_are count) ∙ all_zero count

pub point_is : (scale fraction : ℕ) → 0 < scale → point_and_digits scale fraction ≡ 46 ∷ in_digits scale fraction
point_is zero fraction some = absurd (omega (arith, some))
point_is (suc count) fraction some = refl

pub head_of : (bytes rest : List ℕ) (b : ℕ) → bytes ≡ b ∷ rest → get_or bytes 0 0 ≡ b
head_of bytes rest b e = ap (λ (bs : List ℕ). get_or bs 0 0) e

pub rest_of : (bytes rest : List ℕ) (b : ℕ) → bytes ≡ b ∷ rest → drop 1 bytes ≡ rest
rest_of bytes rest b e = ap (drop 1) e

-- ---- decimal numbers without a sign
pub unsigned_long : (scale : ℕ) (bytes : List ℕ) → IsUnsignedDecimal scale bytes → scale < length bytes
unsigned_long zero bytes h =
    omega (arith, ap length h.text, length-append (decimal h.whole) [], whole_some h.whole 15 (omega arith) h.whole_within_limit)
unsigned_long (suc count) bytes h =
    omega (arith, ap length h.text, length-append (decimal h.whole) (46 ∷ in_digits (suc count) h.fraction), length-in_digits (suc count) h.fraction)

pub whole_unsigned-to : (bytes : List ℕ) → IsWhole 15 bytes → IsUnsignedDecimal 0 bytes
whole_unsigned-to bytes h = record {
  whole = h.number;
  fraction = 0;
  scale_within_limit = omega arith;
  whole_within_limit = h.fits;
  fraction_digits = omega arith;
  text = h.text ∙ sym (append-nil (decimal h.number));
}

pub whole_unsigned-from : (bytes : List ℕ) → IsUnsignedDecimal 0 bytes → IsWhole 15 bytes
whole_unsigned-from bytes h = record {
  number = h.whole;
  fits = h.whole_within_limit;
  text = h.text ∙ append-nil (decimal h.whole);
}

pub parts_unsigned-to : (scale : ℕ) (bytes whole fraction : List ℕ) (number : ℕ) → 0 < scale → scale ≤ MOST_SCALE
    → bytes ≡ whole ++ 46 ∷ fraction → IsWhole (15 - scale) whole → number < 10 ^ scale → fraction ≡ in_digits scale number
    → IsUnsignedDecimal scale bytes
parts_unsigned-to scale bytes whole fraction number some few e h fits digits = record {
  whole = h.number;
  fraction = number;
  scale_within_limit = few;
  whole_within_limit = h.fits;
  fraction_digits = fits;
  text = e ∙ ap (λ (front : List ℕ). front ++ 46 ∷ fraction) h.text
      ∙ ap (λ (ds : List ℕ). decimal h.number ++ 46 ∷ ds) digits
      ∙ ap (λ (rest : List ℕ). decimal h.number ++ rest) (sym (point_is scale number some));
}

-- the text of such a number, where it has a point
pub with_point : (scale : ℕ) (bytes : List ℕ) (h : IsUnsignedDecimal scale bytes) → 0 < scale
    → bytes ≡ decimal h.whole ++ 46 ∷ in_digits scale h.fraction
with_point scale bytes h some =
    h.text ∙ ap (λ (rest : List ℕ). decimal h.whole ++ rest) (point_is scale h.fraction some)

-- where its point stands
pub whole_length : (scale : ℕ) (bytes : List ℕ) (h : IsUnsignedDecimal scale bytes) → 0 < scale
    → length (decimal h.whole) ≡ length bytes - 1 - scale
whole_length scale bytes h some =
    omega (arith, ap length (with_point scale bytes h some), length-append (decimal h.whole) (46 ∷ in_digits scale h.fraction), length-in_digits scale h.fraction)

pub parts_unsigned-from : (scale : ℕ) (bytes whole fraction : List ℕ) → 0 < scale → length whole ≡ length bytes - 1 - scale
    → bytes ≡ whole ++ 46 ∷ fraction → (h : IsUnsignedDecimal scale bytes)
    → SameParts whole fraction (decimal h.whole) (in_digits scale h.fraction)
parts_unsigned-from scale bytes whole fraction some counted e h =
    same_cut 46 whole fraction (decimal h.whole) (in_digits scale h.fraction)
    (counted ∙ sym (whole_length scale bytes h some)) (sym e ∙ with_point scale bytes h some)

-- a text has one decimal number
pub same_decimal_text : (scale whole fraction other_whole other_fraction : ℕ)
    → whole < 10 ^ 15 → other_whole < 10 ^ 15 → fraction < 10 ^ scale → other_fraction < 10 ^ scale
    → decimal_text scale whole fraction ≡ decimal_text scale other_whole other_fraction
    → (whole ≡ other_whole) × (fraction ≡ other_fraction)
same_decimal_text zero whole fraction other_whole other_fraction w v f g e = (
  decimal_injective whole other_whole (omega (arith, w)) (omega (arith, v))
      (sym (append-nil (decimal whole)) ∙ e ∙ append-nil (decimal other_whole)),
  omega (arith, f, g),
)
same_decimal_text (suc count) whole fraction other_whole other_fraction w v f g e =
    let counted : length (decimal whole) ≡ length (decimal other_whole) =
    omega (
      arith,
      ap length e,
      length-append (decimal whole) (46 ∷ in_digits (suc count) fraction),
      length-append (decimal other_whole) (46 ∷ in_digits (suc count) other_fraction),
      length-in_digits (suc count) fraction,
      length-in_digits (suc count) other_fraction,
    ) in
    let parts : SameParts (decimal whole) (in_digits (suc count) fraction) (decimal other_whole) (in_digits (suc count) other_fraction) =
    same_cut 46 (decimal whole) (in_digits (suc count) fraction) (decimal other_whole) (in_digits (suc count) other_fraction) counted e in (
      decimal_injective whole other_whole (omega (arith, w)) (omega (arith, v)) parts.fronts,
      in_digits-injective (suc count) fraction other_fraction f g parts.rests,
    )

minus_is_no_digit : (b : ℕ) → is_ascii_digit b ≡ true → b ≡ 45 → ⊥
minus_is_no_digit b digit minus = grind (arith, nat_tests)

-- it does not begin with `-`
pub no_minus_first : (scale : ℕ) (bytes : List ℕ) → IsUnsignedDecimal scale bytes → get_or bytes 0 0 ≡ 45 → ⊥
no_minus_first scale bytes h minus =
    let room : 15 - scale ≤ 15 = omega arith in
    let wide : h.whole < 2 ^ 64 = whole_fits (15 - scale) h.whole room h.whole_within_limit in
    let some : 0 < length (decimal h.whole) = decimal_nonempty h.whole wide in
    let digit : is_ascii_digit (get_or (decimal h.whole) 0 0) ≡ true =
    AllPass-from_list_all is_ascii_digit (decimal h.whole) (digits_decimal decimal_numeral_model h.whole wide) 0 0 some in
    let first : get_or bytes 0 0 ≡ get_or (decimal h.whole) 0 0 =
    ap (λ (bs : List ℕ). get_or bs 0 0) h.text ∙ get_or-append (decimal h.whole) (point_and_digits scale h.fraction) 0 0 some in
    minus_is_no_digit (get_or (decimal h.whole) 0 0) digit (sym first ∙ minus)

pub fraction_length : (scale : ℕ) (bytes whole fraction : List ℕ) → scale < length bytes → length whole ≡ length bytes - 1 - scale
    → bytes ≡ whole ++ 46 ∷ fraction → length fraction ≡ scale
fraction_length scale bytes whole fraction long counted e =
    omega (arith, long, counted, ap length e, length-append whole (46 ∷ fraction))

-- ---- what is read of a fraction
pub record IsNumberOf (digits : List ℕ) : Type 0 where
  pub number : ℕ
  pub fits : number < 10 ^ length digits
  pub text : digits ≡ in_digits (length digits) number

pub number_from : (r : Option ℕ) (digits : List ℕ) → IfSome r (λ n. n < 10 ^ length digits)
    → IfSome r (λ n. digits ≡ in_digits (length digits) n) → is_some r ≡ true → IsNumberOf digits
number_from None digits fits text some = absurd (false≢true some)
number_from (Some n) digits fits text some = record { number = n; fits = fits; text = text }

pub number_to : (r : Option ℕ) (digits : List ℕ) (number : ℕ)
    → IfNone r ((n : ℕ) → digits ≡ in_digits (length digits) n → ⊥) → digits ≡ in_digits (length digits) number → is_some r ≡ true
number_to None digits number none text = absurd (none number text)
number_to (Some n) digits number none text = refl

-- ---- small things
pub zero_whole : (most : ℕ) (bytes : List ℕ) → get_or bytes 0 0 ≡ 48 → length bytes ≡ 1 → IsWhole most bytes
zero_whole most [] first one = absurd (omega (arith, one))
zero_whole most (b ∷ []) first one = record {
  number = 0;
  fits = one-le-pow most 10 (omega arith);
  text = ap (λ (c : ℕ). c ∷ []) first ∙ sym decimal_zero;
}
zero_whole most (b ∷ other ∷ bytes) first one = absurd (omega (arith, one))

pub not_empty : (bytes : List ℕ) → nat_eq (length bytes) 0 ≡ false → 0 < length bytes
not_empty bytes some = grind (arith, nat_tests)

pub same_rest : (bytes rest other : List ℕ) (b : ℕ) → bytes ≡ b ∷ rest → bytes ≡ b ∷ other → rest ≡ other
same_rest bytes rest other b e f = sym (rest_of bytes rest b e) ∙ rest_of bytes other b f

-- The values that are made up: that each is a value of its type, and that they differ.
use Rattle.std.proofs.Common.{◌≡◌, ℕ, ◌+◌, ◌-◌, ◌/◌, ◌%◌, ◌^◌, ◌<◌, ◌≤◌, IsTrue, true, List, [], ◌∷◌, ◌++◌, refl, inl, arith}
use Rattle.std.specs.Prelude.{codes}
use Rattle.std.specs.Char.{is_ascii_digit}
use Rattle.std.specs.List.{list_all}
use Rattle.std.specs.Fmt.{decimal}
use Rattle.std.proofs.Math.Nat.{pow-le-pow_right, one-le-pow}
use Rattle.std.proofs.lemmas.Bool.{and_parts, and_from}
use Rattle.std.proofs.lemmas.Bool.Decides.{nat_tests}
use Rattle.std.proofs.lemmas.Fmt.{decimal_injective}
use Rattle.std.proofs.lemmas.List.{append_cancel_left, append_cancel_right}
use Rattle.schema_model.proofs.NumeralLemmas.{decimal_integer}
use Rattle.schema_model.specs.declared.column_type.ColumnType.{ColumnType}
use Rattle.schema_model.specs.declared.column_type.ColumnType.TheVariants.{Text, Integer, Date, Timestamp, Decimal, Uuid, Other}
use Rattle.schema_model.specs.declared.column_type.TheConstants.{MOST_SCALE}
use Rattle.schema_model.specs.Columns.{is_column_type}
use Rattle.column_values.specs.Digits.{in_digits, three_in_digits}
use Rattle.column_values.specs.Calendar.{days_in, IsDateText, IsTimestampText}
use Rattle.column_values.specs.Decimals.{point_and_digits, IsUnsignedDecimal}
use Rattle.column_values.specs.Uuids.{is_hex_digit, IsUuidText}
use Rattle.column_values.specs.Values.{IsValueOf}
use Rattle.column_values.specs.MadeUp.{made_up, made_up_date}
use Rattle.column_values.proofs.DigitLemmas.{length-in_digits, list_all-in_digits, in_digits-injective}
use Rattle.column_values.proofs.CalendarLemmas.{SameThree, three_in_digits-injective, days_in-ge}

-- ---- each is a value of its type
made_up_day : (n : ℕ) → n < 1000000 → IsDateText (made_up_date n)
made_up_day n small =
    let many : 28 ≤ days_in (1000 + n / 336) (1 + n / 28 % 12) = days_in-ge (1000 + n / 336) (1 + n / 28 % 12) in
    record {
      year = 1000 + n / 336;
      month = 1 + n / 28 % 12;
      day = 1 + n % 28;
      is_day = record {
        first_year = omega arith;
        last_year = omega (arith, small);
        first_month = omega arith;
        last_month = omega arith;
        first_day = omega arith;
        last_day = omega (arith, many);
      };
      text = refl;
    }

midnight_is : codes "00:00:00" ≡ three_in_digits 58 2 0 0 0
unfolding in_digits
midnight_is = refl

made_up_timestamp : (n : ℕ) → n < 1000000 → IsTimestampText (made_up_date n ++ codes " 00:00:00")
made_up_timestamp n small = record {
  date = made_up_date n;
  time = codes "00:00:00";
  fraction = [];
  is_date = made_up_day n small;
  is_time = record {
    hour = 0;
    minute = 0;
    second = 0;
    is_time = record { last_hour = omega arith; last_minute = omega arith; last_second = omega arith };
    text = midnight_is;
  };
  is_fraction = inl refl;
  text = refl;
}

made_up_decimal : (scale n : ℕ) → scale ≤ MOST_SCALE → n < 1000000 → IsUnsignedDecimal scale (decimal n ++ point_and_digits scale 0)
made_up_decimal scale n few small =
    let short : 6 ≤ 15 - scale = omega (arith, few) in
    let room : 10 ^ 6 ≤ 10 ^ (15 - scale) = pow-le-pow_right {n = 10} (omega arith) short in
    record {
      whole = n;
      fraction = 0;
      scale_within_limit = few;
      whole_within_limit = omega (arith, small, room);
      fraction_digits = one-le-pow scale 10 (omega arith);
      text = refl;
    }

digit_is_hex : (b : ℕ) → is_ascii_digit b ≡ true → is_hex_digit b ≡ true
digit_is_hex b h = grind (arith, nat_tests)

digits_are_hex : (bytes : List ℕ) → list_all is_ascii_digit bytes ≡ true → list_all is_hex_digit bytes ≡ true
digits_are_hex [] h = refl
digits_are_hex (b ∷ bytes) h =
    let parts = and_parts (is_ascii_digit b) (list_all is_ascii_digit bytes) h in
    and_from (is_hex_digit b) (list_all is_hex_digit bytes) (digit_is_hex b parts.0) (digits_are_hex bytes parts.1)

made_up_uuid : (n : ℕ) → IsUuidText (codes "00000000-0000-0000-0000-" ++ in_digits 12 n)
made_up_uuid n = (
  codes "00000000",
  codes "0000-0000-0000-" ++ in_digits 12 n,
  record { counted = refl; each_digit = refl },
  refl,
  (
    codes "0000",
    codes "0000-0000-" ++ in_digits 12 n,
    record { counted = refl; each_digit = refl },
    refl,
    (
      codes "0000",
      codes "0000-" ++ in_digits 12 n,
      record { counted = refl; each_digit = refl },
      refl,
      (
        codes "0000",
        in_digits 12 n,
        record { counted = refl; each_digit = refl },
        refl,
        record { counted = length-in_digits 12 n; each_digit = digits_are_hex (in_digits 12 n) (list_all-in_digits 12 n) },
      ),
    ),
  ),
)

pub made_up_is_value : (column : ColumnType) (n : ℕ) → IsTrue (is_column_type column) → n < 1000000 → IsValueOf column (made_up column n)
made_up_is_value Text n valid small = tt
made_up_is_value Integer n valid small = decimal_integer n (omega (arith, small))
made_up_is_value Date n valid small = made_up_day n small
made_up_is_value Timestamp n valid small = made_up_timestamp n small
made_up_is_value (Decimal scale) n valid small = inl (made_up_decimal scale n (grind (arith, nat_tests, valid)) small)
made_up_is_value Uuid n valid small = made_up_uuid n
made_up_is_value (Other name) n valid small = tt

-- ---- they differ
same_decimal : (m n : ℕ) → m < 1000000 → n < 1000000 → decimal m ≡ decimal n → m ≡ n
same_decimal m n m_small n_small e = decimal_injective m n (omega (arith, m_small)) (omega (arith, n_small)) e

same_day : (m n : ℕ) → m < 1000000 → n < 1000000 → made_up_date m ≡ made_up_date n → m ≡ n
same_day m n m_small n_small e =
    let same : SameThree (1000 + m / 336) (1 + m / 28 % 12) (1 + m % 28) (1000 + n / 336) (1 + n / 28 % 12) (1 + n % 28) =
    three_in_digits-injective 45 4 (1000 + m / 336) (1 + m / 28 % 12) (1 + m % 28) (1000 + n / 336) (1 + n / 28 % 12) (1 + n % 28)
    (omega (arith, m_small)) (omega arith) (omega arith) (omega (arith, n_small)) (omega arith) (omega arith) e in
    omega (arith, same.first, same.second, same.third)

pub made_up_differ : (column : ColumnType) (m n : ℕ) → m < 1000000 → n < 1000000 → made_up column m ≡ made_up column n → m ≡ n
made_up_differ Text m n m_small n_small e = same_decimal m n m_small n_small e
made_up_differ Integer m n m_small n_small e = same_decimal m n m_small n_small e
made_up_differ Date m n m_small n_small e = same_day m n m_small n_small e
made_up_differ Timestamp m n m_small n_small e =
    same_day m n m_small n_small (append_cancel_right (made_up_date m) (made_up_date n) (codes " 00:00:00") e)
made_up_differ (Decimal scale) m n m_small n_small e =
    same_decimal m n m_small n_small (append_cancel_right (decimal m) (decimal n) (point_and_digits scale 0) e)
made_up_differ Uuid m n m_small n_small e =
    in_digits-injective 12 m n (omega (arith, m_small)) (omega (arith, n_small))
    (append_cancel_left (codes "00000000-0000-0000-0000-") (in_digits 12 m) (in_digits 12 n) e)
made_up_differ (Other name) m n m_small n_small e = same_decimal m n m_small n_small e

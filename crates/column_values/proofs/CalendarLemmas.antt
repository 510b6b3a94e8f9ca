-- The texts of days and times: that a text has one day, and how long the texts are.
use Rattle.std.proofs.Common.{◌≡◌, ℕ, ◌+◌, ◌^◌, ◌<◌, ◌≤◌, List, ◌∷◌, ◌++◌, length, sym, ap, ◌∙◌, length-append, arith}
use Rattle.std.proofs.lemmas.Bool.Decides.{nat_tests}
use Rattle.column_values.specs.Digits.{in_digits, three_in_digits}
use Rattle.column_values.specs.Calendar.{days_in, IsDay, IsDateText, IsTime, IsTimeText, IsFractionText, IsTimestampText}
use Rattle.column_values.proofs.DigitLemmas.{SameParts, same_parts, same_cut, length-in_digits, in_digits-injective}

pub record SameThree (x y z other_x other_y other_z : ℕ) : Type 0 where
  pub first : x ≡ other_x
  pub second : y ≡ other_y
  pub third : z ≡ other_z

-- three numbers in digits have one text, and it has one such three
pub three_in_digits-injective : (separator count x y z other_x other_y other_z : ℕ)
    → x < 10 ^ count → y < 100 → z < 100 → other_x < 10 ^ count → other_y < 100 → other_z < 100
    → three_in_digits separator count x y z ≡ three_in_digits separator count other_x other_y other_z
    → SameThree x y z other_x other_y other_z
three_in_digits-injective separator count x y z other_x other_y other_z x_fits y_fits z_fits other_x_fits other_y_fits other_z_fits e =
    let firsts : SameParts (in_digits count x) (in_digits 2 y ++ separator ∷ in_digits 2 z) (in_digits count other_x) (in_digits 2 other_y ++ separator ∷ in_digits 2 other_z) =
    same_cut separator (in_digits count x) (in_digits 2 y ++ separator ∷ in_digits 2 z) (in_digits count other_x) (in_digits 2 other_y ++ separator ∷ in_digits 2 other_z)
    (length-in_digits count x ∙ sym (length-in_digits count other_x)) e in
    let seconds : SameParts (in_digits 2 y) (in_digits 2 z) (in_digits 2 other_y) (in_digits 2 other_z) =
    same_cut separator (in_digits 2 y) (in_digits 2 z) (in_digits 2 other_y) (in_digits 2 other_z)
    (length-in_digits 2 y ∙ sym (length-in_digits 2 other_y)) firsts.rests in
    record {
      first = in_digits-injective count x other_x x_fits other_x_fits firsts.fronts;
      second = in_digits-injective 2 y other_y y_fits other_y_fits seconds.fronts;
      third = in_digits-injective 2 z other_z z_fits other_z_fits seconds.rests;
    }

pub length-three_in_digits : (separator count x y z : ℕ) → length (three_in_digits separator count x y z) ≡ count + 6
length-three_in_digits separator count x y z =
    omega (arith, length-append (in_digits count x) (separator ∷ (in_digits 2 y ++ separator ∷ in_digits 2 z)), length-append (in_digits 2 y) (separator ∷ in_digits 2 z), length-in_digits count x, length-in_digits 2 y, length-in_digits 2 z)

-- each month has 28 to 31 days
pub days_in-le : (year month : ℕ) → days_in year month ≤ 31
days_in-le year month = grind (arith, nat_tests)

pub days_in-ge : (year month : ℕ) → 28 ≤ days_in year month
days_in-ge year month = grind (arith, nat_tests)

pub length-date : (bytes : List ℕ) → IsDateText bytes → length bytes ≡ 10
length-date bytes h = ap length h.text ∙ length-three_in_digits 45 4 h.year h.month h.day

pub length-time : (bytes : List ℕ) → IsTimeText bytes → length bytes ≡ 8
length-time bytes h = ap length h.text ∙ length-three_in_digits 58 2 h.hour h.minute h.second

-- the day of a text that is read is a day
pub day_of_date : (bytes : List ℕ) (year month day : ℕ) → year < 10 ^ 4 → month < 100 → day < 100
    → bytes ≡ three_in_digits 45 4 year month day → IsDateText bytes → IsDay year month day
day_of_date bytes year month day year_fits month_fits day_fits e h =
    let few : days_in h.year h.month ≤ 31 = days_in-le h.year h.month in
    let same : SameThree h.year h.month h.day year month day =
    three_in_digits-injective 45 4 h.year h.month h.day year month day (omega (arith, h.is_day.last_year)) (omega (arith, h.is_day.last_month)) (omega (arith, h.is_day.last_day, few))
    year_fits month_fits day_fits (sym h.text ∙ e) in
    rw (← same.first, ← same.second, ← same.third) h.is_day

pub date_from : (bytes : List ℕ) (year month day : ℕ) → bytes ≡ three_in_digits 45 4 year month day → IsDay year month day
    → IsDateText bytes
date_from bytes year month day e is_day = record { year = year; month = month; day = day; is_day = is_day; text = e }

pub same_day_text : (year month day other_year other_month other_day : ℕ)
    → IsDay year month day → IsDay other_year other_month other_day
    → three_in_digits 45 4 year month day ≡ three_in_digits 45 4 other_year other_month other_day
    → (year ≡ other_year) × (month ≡ other_month) × (day ≡ other_day)
same_day_text year month day other_year other_month other_day h g e =
    let few : days_in year month ≤ 31 = days_in-le year month in
    let other_few : days_in other_year other_month ≤ 31 = days_in-le other_year other_month in
    let same : SameThree year month day other_year other_month other_day =
    three_in_digits-injective 45 4 year month day other_year other_month other_day
    (omega (arith, h.last_year)) (omega (arith, h.last_month)) (omega (arith, h.last_day, few))
    (omega (arith, g.last_year)) (omega (arith, g.last_month)) (omega (arith, g.last_day, other_few)) e in
    (same.first, same.second, same.third)

-- ---- times
pub time_from : (bytes : List ℕ) (hour minute second : ℕ) → bytes ≡ three_in_digits 58 2 hour minute second
    → IsTime hour minute second → IsTimeText bytes
time_from bytes hour minute second e is_time = record { hour = hour; minute = minute; second = second; is_time = is_time; text = e }

pub time_of_text : (bytes : List ℕ) (hour minute second : ℕ) → hour < 10 ^ 2 → minute < 100 → second < 100
    → bytes ≡ three_in_digits 58 2 hour minute second → IsTimeText bytes → IsTime hour minute second
time_of_text bytes hour minute second hour_fits minute_fits second_fits e h =
    let same : SameThree h.hour h.minute h.second hour minute second =
    three_in_digits-injective 58 2 h.hour h.minute h.second hour minute second
    (omega (arith, h.is_time.last_hour)) (omega (arith, h.is_time.last_minute)) (omega (arith, h.is_time.last_second))
    hour_fits minute_fits second_fits (sym h.text ∙ e) in
    rw (← same.first, ← same.second, ← same.third) h.is_time

-- ---- days with a time
pub timestamp_parts : (bytes date rest : List ℕ) → length date ≡ 10 → bytes ≡ date ++ 32 ∷ rest → (h : IsTimestampText bytes)
    → SameParts date rest h.date (h.time ++ h.fraction)
timestamp_parts bytes date rest counted e h =
    same_cut 32 date rest h.date (h.time ++ h.fraction) (counted ∙ sym (length-date h.date h.is_date)) (sym e ∙ h.text)

pub time_parts : (bytes time fraction : List ℕ) (h : IsTimestampText bytes) → length time ≡ 8 → time ++ fraction ≡ h.time ++ h.fraction
    → SameParts time fraction h.time h.fraction
time_parts bytes time fraction h counted e =
    same_parts time fraction h.time h.fraction (counted ∙ sym (length-time h.time h.is_time)) e

pub long_rest : (bytes rest : List ℕ) (h : IsTimestampText bytes) → rest ≡ h.time ++ h.fraction → 8 ≤ length rest
long_rest bytes rest h e =
    omega (arith, ap length e, length-append h.time h.fraction, length-time h.time h.is_time)

pub timestamp_from : (bytes date rest time fraction : List ℕ) → bytes ≡ date ++ 32 ∷ rest → rest ≡ time ++ fraction
    → IsDateText date → IsTimeText time → IsFractionText fraction → IsTimestampText bytes
timestamp_from bytes date rest time fraction e parts is_date is_time is_fraction = record {
  date = date;
  time = time;
  fraction = fraction;
  is_date = is_date;
  is_time = is_time;
  is_fraction = is_fraction;
  text = e ∙ ap (λ (r : List ℕ). date ++ 32 ∷ r) parts;
}

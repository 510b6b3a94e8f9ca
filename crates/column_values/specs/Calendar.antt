-- The texts of days of the Gregorian calendar, and of days with a time: for the values of columns.
use Rattle.std.specs.Prelude.{◌≡◌, ◌≢◌, ℕ, ◌-◌, ◌%◌, ◌<◌, ◌≤◌, ◌⊎◌, Bool, not, ◌&&◌, ◌||◌, ◌==◌, if◌then◌else◌, IsTrue, List, [], ◌∷◌, ◌++◌, length, slice_index}
use Rattle.std.specs.List.{list_all}
use Rattle.std.specs.Char.{is_ascii_digit}
use Rattle.column_values.specs.Digits.{three_in_digits}

-- the years that 4 divides, and of the centuries only those that 400 divides
abbrev pub is_leap : ℕ → Bool
is_leap year = (year % 4 == 0) && (not (year % 100 == 0) || (year % 400 == 0))

-- how many days a month has
abbrev pub days_in : ℕ → ℕ → ℕ
days_in year month =
    if month == 2 then (if is_leap year then 29 else 28)
    else (if (month == 4) || (month == 6) || (month == 9) || (month == 11) then 30 else 31)

-- a day of the Gregorian calendar, in the years 1 to 9999
pub record IsDay (year month day : ℕ) : Type 0 where
  pub first_year : 1 ≤ year
  pub last_year : year ≤ 9999
  pub first_month : 1 ≤ month
  pub last_month : month ≤ 12
  pub first_day : 1 ≤ day
  pub last_day : day ≤ days_in year month

-- a day as `YYYY-MM-DD`
abbrev pub date_text : ℕ → ℕ → ℕ → List ℕ
date_text year month day = three_in_digits 45 4 year month day

-- the text of a day
pub record IsDateText (bytes : List ℕ) : Type 0 where
  pub year : ℕ
  pub month : ℕ
  pub day : ℕ
  pub is_day : IsDay year month day
  pub text : bytes ≡ date_text year month day

-- a time of day
pub record IsTime (hour minute second : ℕ) : Type 0 where
  pub last_hour : hour ≤ 23
  pub last_minute : minute ≤ 59
  pub last_second : second ≤ 59

-- the text of a time of day, `HH:MM:SS`
pub record IsTimeText (bytes : List ℕ) : Type 0 where
  pub hour : ℕ
  pub minute : ℕ
  pub second : ℕ
  pub is_time : IsTime hour minute second
  pub text : bytes ≡ three_in_digits 58 2 hour minute second

-- 1 to 6 digits, the last of which is not `0`
pub record IsFraction (digits : List ℕ) : Type 0 where
  pub not_empty : 0 < length digits
  pub within_limit : length digits ≤ 6
  pub each_digit : IsTrue (list_all is_ascii_digit digits)
  pub last : slice_index digits (length digits - 1) ≢ 48

-- the parts of a second: nothing, or a point and digits
abbrev pub IsFractionText : List ℕ → Type 0
IsFractionText bytes = (bytes ≡ []) ⊎ ((digits : List ℕ) × (bytes ≡ 46 ∷ digits) × IsFraction digits)

-- the text of a day, a blank, the text of a time of day and the parts of its second
pub record IsTimestampText (bytes : List ℕ) : Type 0 where
  pub date : List ℕ
  pub time : List ℕ
  pub fraction : List ℕ
  pub is_date : IsDateText date
  pub is_time : IsTimeText time
  pub is_fraction : IsFractionText fraction
  pub text : bytes ≡ date ++ 32 ∷ (time ++ fraction)

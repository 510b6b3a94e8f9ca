-- The values that the program makes up, one for each number: for the relations that it prints.
use Rattle.std.specs.Prelude.{ℕ, ◌+◌, ◌/◌, ◌%◌, List, ◌++◌, codes}
use Rattle.std.specs.Fmt.{decimal}
use Rattle.schema_model.specs.declared.column_type.ColumnType.{ColumnType}
use Rattle.schema_model.specs.declared.column_type.ColumnType.TheVariants.{Text, Integer, Date, Timestamp, Decimal, Uuid, Other}
use Rattle.column_values.specs.Digits.{in_digits}
use Rattle.column_values.specs.Calendar.{date_text}
use Rattle.column_values.specs.Decimals.{point_and_digits}

-- the day of a number: from the year 1000 on, the first 28 days of each month
abbrev pub made_up_date : ℕ → List ℕ
made_up_date number = date_text (1000 + number / 336) (1 + number / 28 % 12) (1 + number % 28)

-- the identifier of a number: its last digits
abbrev pub made_up_uuid : ℕ → List ℕ
made_up_uuid number = codes "00000000-0000-0000-0000-" ++ in_digits 12 number

-- the value of a type that stands for a number
abbrev pub made_up : ColumnType → ℕ → List ℕ
made_up Text number = decimal number
made_up Integer number = decimal number
made_up Date number = made_up_date number
made_up Timestamp number = made_up_date number ++ codes " 00:00:00"
made_up (Decimal scale) number = decimal number ++ point_and_digits scale 0
made_up Uuid number = made_up_uuid number
made_up (Other name) number = decimal number

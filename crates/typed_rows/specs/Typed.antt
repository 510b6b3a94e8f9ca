-- Relations of numerals, and the same with the values that stand for the numbers: for all relations
-- that the program makes up and prints.
use Rattle.std.specs.Prelude.{◌≡◌, ℕ, ◌<◌, List, [], ◌∷◌, map, All}
use Rattle.std.specs.Fmt.{decimal}
use Rattle.std.specs.Str.Parse.{digits_value}
use Rattle.schema_model.specs.declared.column_type.ColumnType.{ColumnType}
use Rattle.schema_model.specs.declared.column_type.ColumnType.TheVariants.{Text, Integer, Other}
use Rattle.dep_model.specs.Tuples.{Tuple, Relation}
use Rattle.column_values.specs.declared.making.TheConstants.{MADE_UP_VALUES}
use Rattle.column_values.specs.MadeUp.{made_up}

-- a number below `MADE_UP_VALUES` in decimal
pub record IsNumeral (bytes : List ℕ) : Type 0 where
  pub number : ℕ
  pub small : number < MADE_UP_VALUES
  pub text : bytes ≡ decimal number

-- a tuple of such numbers
abbrev pub AreNumerals : Tuple → Type 0
AreNumerals t = All IsNumeral t

-- a relation of such tuples
abbrev pub HoldsNumerals : Relation → Type 0
HoldsNumerals r = All AreNumerals r

-- the values of the columns' types that stand for the numbers of a tuple
abbrev pub typed_tuple : List ColumnType → Tuple → Tuple
typed_tuple (column ∷ columns) (value ∷ t) = made_up column (digits_value 10 value) ∷ typed_tuple columns t
typed_tuple columns t = []

-- the same for each tuple of a relation
abbrev pub typed_relation : List ColumnType → Relation → Relation
typed_relation columns r = map (typed_tuple columns) r

-- a type that shows numbers as they are: text, integers, or another type of SQL
abbrev pub ShowsNumerals : ColumnType → Type 0
ShowsNumerals Text = Unit {0}
ShowsNumerals Integer = Unit {0}
ShowsNumerals (Other name) = Unit {0}
ShowsNumerals column = ⊥

-- The values of each type of column, and relations that fit the columns of a schema: for all that
-- makes, reads or writes rows.
use Rattle.std.specs.Prelude.{◌≡◌, ℕ, ◌⊎◌, Bool, IsTrue, Some, List, [], All, slice_get}
use Rattle.attr_sets.specs.Attributes.{Attributes}
use Rattle.schema_model.specs.declared.column_type.ColumnType.{ColumnType}
use Rattle.schema_model.specs.declared.column_type.ColumnType.TheVariants.{Text, Integer, Date, Timestamp, Decimal, Uuid, Other}
use Rattle.schema_model.specs.Schemas.{Schema}
use Rattle.schema_model.specs.Integers.{IsIntegerText}
use Rattle.schema_model.specs.Schemas.{types_of, nullable_of}
use Rattle.dep_model.specs.Tuples.{Tuple, Relation, value_at}
use Rattle.column_values.specs.Calendar.{IsDateText, IsTimestampText}
use Rattle.column_values.specs.Decimals.{IsDecimalText}
use Rattle.column_values.specs.Uuids.{IsUuidText}

-- the texts that are values of a type: of text and of another type of SQL, any bytes
abbrev pub IsValueOf : ColumnType → List ℕ → Type 0
IsValueOf Text bytes = Unit {0}
IsValueOf Integer bytes = IsIntegerText bytes
IsValueOf Date bytes = IsDateText bytes
IsValueOf Timestamp bytes = IsTimestampText bytes
IsValueOf (Decimal scale) bytes = IsDecimalText scale bytes
IsValueOf Uuid bytes = IsUuidText bytes
IsValueOf (Other name) bytes = Unit {0}

-- the missing value, which a column has only where it is nullable: the empty text
abbrev pub IsMissing : Bool → List ℕ → Type 0
IsMissing nullable bytes = IsTrue nullable × (bytes ≡ [])

-- the missing value, or a value of the column's type
abbrev pub FitsColumn : ColumnType → Bool → List ℕ → Type 0
FitsColumn column nullable bytes = IsMissing nullable bytes ⊎ IsValueOf column bytes

-- each value of a tuple fits its column
abbrev pub FitsEach : List ColumnType → Attributes → Tuple → Type 0
FitsEach columns nullable t =
    (k : ℕ) (column : ColumnType) → slice_get columns k ≡ Some column
    → FitsColumn column (nullable k) (value_at t k)

-- each value of a relation fits its column of a schema
abbrev pub FitsColumns : Schema → Relation → Type 0
FitsColumns s r = All (FitsEach (types_of s) (nullable_of s)) r

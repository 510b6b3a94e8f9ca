-- The types of columns: for schemas (`Schemas`) and all that makes or reads rows.
use Rattle.std.specs.Prelude.{ℕ, nat_le, Bool, true, false, Option, Some, None, List, replicate, Vec}
use Rattle.std.specs.declared.alloc.Global.{Global}
use Rattle.schema_model.specs.declared.column_type.ColumnType.{ColumnType}
use Rattle.schema_model.specs.declared.column_type.ColumnType.TheVariants.{Text, Integer, Decimal, Other}
use Rattle.schema_model.specs.declared.column_type.TheConstants.{MOST_SCALE}
use Rattle.schema_model.specs.Names.{is_type_text}

-- the scale of a decimal type and the text of another one are within their limits
abbrev pub is_column_type : ColumnType → Bool
is_column_type (Decimal scale) = nat_le scale MOST_SCALE
is_column_type (Other text) = is_type_text text
is_column_type column = true

-- a type of columns beside bare names: text or integer
abbrev pub is_plain_type : ColumnType → Bool
is_plain_type Text = true
is_plain_type Integer = true
is_plain_type column = false

-- the types of n columns: all text where none are given
abbrev pub types_or_text : ℕ → Option (Vec ColumnType Global) → List ColumnType
types_or_text n None = replicate n Text
types_or_text n (Some types) = types.items

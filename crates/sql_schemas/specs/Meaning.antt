-- What the text of the schema of a table declares: for the laws.
use Rattle.std.specs.Prelude.{◌≡◌, ℕ, Some, Ok, List, [], length, map, filter, slice_get}
use Rattle.schema_model.specs.declared.naming.Naming.TheVariants.{Any}
use Rattle.schema_grammar.specs.Declarations.{Declarations}
use Rattle.sql_definitions.specs.Facts.{Facts, StatedColumn, StatedKey}
use Rattle.sql_schemas.specs.Keys.{KeyColumns, is_dependency, key_dependency, key_of, new_keys}
use Rattle.sql_schemas.specs.Texts.{column_names, column_types, columns_missing}

-- a key is one that the table states, with the columns that its parts name
pub record IsStatedKey (f : Facts) (key : KeyColumns) : Type 0 where
  pub at : ℕ
  pub statement : StatedKey
  pub stated : slice_get f.keys at ≡ Some statement
  pub columns : key_of f.columns statement ≡ Ok key

-- the keys of a table that state dependencies, each once
abbrev pub whole_keys : List StatedColumn → List KeyColumns → List KeyColumns
whole_keys columns keys =
    filter (is_dependency (columns_missing columns keys))
    (new_keys (length columns) (columns_missing columns keys) [] keys)

-- the columns of a table, and the dependencies of these keys, on lines of these numbers
abbrev pub declared_table : List StatedColumn → List KeyColumns → List ℕ → Declarations
declared_table columns keys lines = record {
  names = column_names columns;
  columns = column_types columns;
  deps = map (key_dependency (length columns)) (whole_keys columns keys);
  lines = lines;
  naming = Any;
  nullable = columns_missing columns keys;
}

-- The text of the schema of a table: its columns, those of which a value may be missing, and its keys.
use Rattle.std.specs.Prelude.{◌≡◌, ℕ, Bool, false, ◌&&◌, not, Option, Some, None, Result, Ok, List, [], ◌++◌, length, map, codes, slice_get, if◌then◌else◌}
use Rattle.std.specs.List.{list_any}
use Rattle.attr_sets.specs.Attributes.{Attributes}
use Rattle.schema_model.specs.Schemas.{naming_of, names_of, types_of, nullable_of, deps_of}
use Rattle.schema_model.specs.declared.column_type.ColumnType.{ColumnType}
use Rattle.schema_model.specs.Schemas.{Schema}
use Rattle.schema_model.specs.declared.naming.Naming.TheVariants.{Any}
use Rattle.schema_printer.specs.Printing.{dependency_text, lines_text, schema_lines, set_text}
use Rattle.schema_printer.specs.Spelling.{spelling}
use Rattle.sql_lexemes.specs.declared.dialect.Dialect.{Dialect}
use Rattle.sql_definitions.specs.declared.refusal.Refusal.{Refusal}
use Rattle.sql_definitions.specs.Definitions.{definition_of}
use Rattle.sql_definitions.specs.Facts.{Facts, StatedColumn}
use Rattle.sql_definitions.specs.Wanted.{TableName}
use Rattle.sql_schemas.specs.Keys.{KeyColumns, and_then, is_dependency, is_primary, key_dependency, keys_of, new_keys}

-- ---- the columns
abbrev pub column_names : List StatedColumn → List (List ℕ)
column_names columns = map (λ c. c.name) columns

abbrev pub column_types : List StatedColumn → List ColumnType
column_types columns = map (λ c. c.kind) columns

-- a column that does not say itself that no value is missing
abbrev pub says_nothing : Option StatedColumn → Bool
says_nothing None = false
says_nothing (Some column) = not column.never_missing

-- a PRIMARY KEY keeps values of a column from missing
abbrev pub is_bound : List KeyColumns → ℕ → Bool
is_bound keys k = list_any (λ key. is_primary key.kind && key.columns k) keys

-- the columns of which a value may be missing: neither they say otherwise, nor a key
abbrev pub columns_missing : List StatedColumn → List KeyColumns → Attributes
columns_missing columns keys k = says_nothing (slice_get columns k) && not (is_bound keys k)

-- ---- the keys
-- by what it is stated, in a comment
abbrev pub comment_front : Bool → List ℕ
comment_front primary = if primary then codes "# PRIMARY KEY " else codes "# UNIQUE "

-- the comment of a key that states no dependency
abbrev pub comment_text : List (List ℕ) → KeyColumns → List ℕ
comment_text names key =
    comment_front (is_primary key.kind) ++ set_text names key.columns ++ codes ": missing values are not compared"

-- the line of a key: a dependency, where it states one, else a comment
unfoldable pub key_line : List (List ℕ) → Attributes → KeyColumns → List ℕ
key_line names missing key =
    if is_dependency missing key then dependency_text names (key_dependency (length names) key)
    else comment_text names key

-- ---- the schema and its text
-- a schema has these columns, those among them of which a value may be missing, and no dependencies
pub record IsSchemaOf (columns : List StatedColumn) (keys : List KeyColumns) (s : Schema) : Type 0 where
  pub naming : naming_of s ≡ Any
  pub names : names_of s ≡ column_names columns
  pub types : types_of s ≡ column_types columns
  pub nullable : nullable_of s ≡ columns_missing columns keys
  pub deps : deps_of s ≡ []

abbrev pub printed_names : List StatedColumn → List (List ℕ)
printed_names columns = map (spelling Any) (column_names columns)

abbrev pub table_lines : List StatedColumn → List KeyColumns → List (List ℕ)
table_lines columns keys =
    schema_lines Any (column_types columns) (printed_names columns) (columns_missing columns keys)
    ++ map (key_line (printed_names columns) (columns_missing columns keys))
    (new_keys (length columns) (columns_missing columns keys) [] keys)

-- the text of the schema of a table of these columns and keys
unfoldable pub table_text : List StatedColumn → List KeyColumns → List ℕ
table_text columns keys = lines_text (table_lines columns keys)

-- the same, of what is known of it
abbrev pub text_of_facts : Facts → Result (List ℕ) Refusal
text_of_facts f = and_then (keys_of f) (λ keys. Ok (table_text f.columns keys))

-- the text of the schema of the table that the SQL of a text defines
abbrev pub imported_text : Dialect → TableName → List ℕ → Result (List ℕ) Refusal
imported_text d wanted text = and_then (definition_of d wanted text) text_of_facts

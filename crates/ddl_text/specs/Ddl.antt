-- A design as statements of SQL: for `print_ddl` and the command `ddl` (`desk_designs/Designs`), and for the script of
-- `sql migrate` (`sql_migrate/Script`).
use Rattle.std.specs.Prelude.{ℕ, Bool, if◌then◌else◌, not, List, [], ◌∷◌, ◌++◌, map, filter, codes, decimal, is_some, slice_index_or}
use Rattle.std.specs.List.{flat_map}
use Rattle.attr_sets.specs.Attributes.{Attributes, none, difference}
use Rattle.attr_sets.specs.Sets.{attributes, is_subset, is_disjoint}
use Rattle.schema_model.specs.declared.column_type.ColumnType.{ColumnType}
use Rattle.schema_model.specs.declared.column_type.ColumnType.TheVariants.{Text, Integer, Date, Timestamp, Decimal, Uuid, Other}
use Rattle.schema_model.specs.Schemas.{Schema}
use Rattle.schema_model.specs.Schemas.{names_of, width_of, types_of, nullable_of}
use Rattle.dep_model.specs.Projections.{members_below}
use Rattle.sql_syntax.specs.Names.{attribute_names, quoted_name}
use Rattle.sql_syntax.specs.Printing.{names_text}
use Rattle.sql_syntax.specs.Syntax.{attribute}
use Rattle.sql_syntax.specs.Statements.{Element, column_definition, primary_key, unique_key, foreign_key, Statement, remark, create_table, script_text}
use Rattle.ddl_text.specs.Designs.{known_keys}
use Rattle.ddl_text.specs.declared.table.TableDesign.{TableDesign}

-- ---- columns
-- a type of columns in SQL
abbrev pub sql_type : ColumnType → List ℕ
sql_type Text = codes "TEXT"
sql_type Integer = codes "BIGINT"
sql_type Date = codes "DATE"
sql_type Timestamp = codes "TIMESTAMP"
sql_type (Decimal scale) = codes "DECIMAL(15, " ++ decimal scale ++ codes ")"
sql_type Uuid = codes "UUID"
sql_type (Other text) = text

-- the column of an attribute, of which a value may be missing where it is one of these
abbrev pub column_made : Schema → Attributes → ℕ → Element
column_made s nullable k =
    column_definition (attribute (slice_index_or (names_of s) k [])) (sql_type (slice_index_or (types_of s) k Text))
    (nullable k)

abbrev pub columns_of_set : Schema → Attributes → Attributes → List Element
columns_of_set s nullable scheme = map (column_made s nullable) (members_below (width_of s) scheme)

-- the columns of a table, ascending: no value of its key may be missing
abbrev pub columns_made : Schema → TableDesign → List Element
columns_made s table = columns_of_set s (difference (nullable_of s) (attributes table.key)) (attributes table.scheme)

-- ---- keys
-- whether a set has no member
abbrev pub is_empty : Attributes → Bool
is_empty x = is_subset x none

-- whether no value of a key may be missing
abbrev pub is_never_missing : Schema → Attributes → Bool
is_never_missing s key = is_disjoint key (nullable_of s)

-- those keys of which no value may be missing, which are stated, and the rest, which are left out
abbrev pub stated_keys : Schema → List Attributes → List Attributes
stated_keys s keys = filter (is_never_missing s) keys

abbrev pub left_out_keys : Schema → List Attributes → List Attributes
left_out_keys s keys = filter (λ key. not (is_never_missing s key)) keys

-- the key, where it is not empty, and those other keys that are stated
abbrev pub key_made : Schema → Attributes → List Element
key_made s key = if is_empty key then [] else primary_key (attribute_names s key) ∷ []

abbrev pub uniques_made : Schema → List Attributes → List Element
uniques_made s keys = map (λ key. unique_key (attribute_names s key)) (stated_keys s keys)

abbrev pub keys_made : Schema → TableDesign → List Element
keys_made s table = key_made s (attributes table.key) ++ uniques_made s (known_keys table.other_keys)

-- ---- references
-- a reference to a table by its key
abbrev pub reference_made : Schema → TableDesign → Element
reference_made s other = foreign_key (attribute_names s (attributes other.key)) (quoted_name other.name)

-- the references of a table to those at positions, in order
abbrev pub references_to : Schema → List TableDesign → TableDesign → List ℕ → List Element
references_to s tables table refs = map (λ j. reference_made s (slice_index_or tables j table)) refs

abbrev pub references_made : Schema → List TableDesign → TableDesign → List Element
references_made s tables table = references_to s tables table table.refs.items

-- ---- tables
-- the columns, the keys and the references of a table
abbrev pub elements_made : Schema → List TableDesign → TableDesign → List Element
elements_made s tables table = columns_made s table ++ keys_made s table ++ references_made s tables table

-- what is said of a key that is left out
abbrev pub left_out_words : Schema → Attributes → List ℕ
left_out_words s key =
    codes "UNIQUE (" ++ names_text (attribute_names s key) ++ codes ") is left out: missing values are not compared"

-- what is said before a table: that its key is empty, which other keys are left out, or that none are known
abbrev pub said_of : Schema → TableDesign → List (List ℕ)
said_of s table =
    if is_empty (attributes table.key) then codes "at most one row" ∷ []
    else if is_some table.other_keys then map (left_out_words s) (left_out_keys s (known_keys table.other_keys))
    else codes "further keys are not looked for" ∷ []

abbrev pub remarks_made : Schema → TableDesign → List Statement
remarks_made s table = map remark (said_of s table)

-- the statement that creates a table, after what is said of it
abbrev pub table_made : Schema → List TableDesign → TableDesign → List Statement
table_made s tables table =
    remarks_made s table ++ create_table (quoted_name table.name) (elements_made s tables table) ∷ []

abbrev pub tables_made : Schema → List TableDesign → List TableDesign → List Statement
tables_made s tables made = flat_map (table_made s tables) made

-- the statements that create the tables of a design, in order
abbrev pub ddl_text : Schema → List TableDesign → List ℕ
ddl_text s tables = script_text (tables_made s tables tables)

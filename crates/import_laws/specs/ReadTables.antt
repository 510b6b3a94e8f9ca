-- What `import` reads of a table that `ddl` prints: for the laws.
use Rattle.std.specs.Prelude.{◌≡◌, ℕ, true, not, ◌&&◌, if◌then◌else◌, List, [], ◌∷◌, ◌++◌, map, filter, slice_index_or, Option, Some, None}
use Rattle.attr_sets.specs.Attributes.{Attributes, difference}
use Rattle.attr_sets.specs.Sets.{attributes}
use Rattle.schema_model.specs.declared.column_type.ColumnType.TheVariants as type
use Rattle.schema_model.specs.Schemas.{Schema}
use Rattle.dep_model.specs.Projections.{members_below}
use Rattle.schema_model.specs.Schemas.{names_of, nullable_of, types_of, width_of}
use Rattle.schema_printer.specs.Printing.{members_from}
use Rattle.ddl_text.specs.Ddl.{is_empty, is_never_missing}
use Rattle.ddl_text.specs.Designs.{known_keys}
use Rattle.ddl_text.specs.declared.table.TableDesign.{TableDesign}
use Rattle.sql_lexemes.specs.declared.dialect.Dialect.{Dialect}
use Rattle.sql_definitions.specs.declared.definition.KeyKind.{KeyKind}
use Rattle.sql_definitions.specs.declared.definition.KeyKind.TheVariants.{Primary, Unique}
use Rattle.sql_definitions.specs.Facts.{Facts, StatedColumn, StatedKey}
use Rattle.sql_definitions.specs.Wanted.{TableName}
use Rattle.import_laws.specs.StatedTypes.{is_serial_type, read_type}

-- the table of a name
abbrev pub named : List ℕ → TableName
named name = record { last = name; middle = None; outer = None }

-- the attributes of which a value may be missing where a table is read: the nullable ones outside its key whose type is
-- not serial
abbrev pub read_nullable : Dialect → Schema → TableDesign → Attributes
read_nullable d s table k =
    difference (nullable_of s) (attributes table.key) k
    && not (is_serial_type d (slice_index_or (types_of s) k type.Text))

-- the column of an attribute
abbrev pub read_column : Dialect → Schema → TableDesign → ℕ → StatedColumn
read_column d s table k = record {
  name = slice_index_or (names_of s) k [];
  kind = read_type d (slice_index_or (types_of s) k type.Text);
  never_missing = not (read_nullable d s table k);
}

-- the columns of a table, in order
abbrev pub read_columns : Dialect → Schema → TableDesign → List StatedColumn
read_columns d s table = map (read_column d s table) (members_below (width_of s) (attributes table.scheme))

-- a key that is stated, by the names of its parts
pub record NamedKey : Type 0 where
  pub kind : KeyKind
  pub names : List (Option (List ℕ))

abbrev pub named_key : StatedKey → NamedKey
named_key key = record { kind = key.kind; names = map (λ part. part.name) key.parts }

abbrev pub key_named : Schema → KeyKind → Attributes → NamedKey
key_named s kind key = record { kind = kind; names = map Some (members_from key 0 (names_of s)) }

-- the keys of a table that are read: its key, if it is not empty, then the others of which no value may be missing
abbrev pub read_keys : Schema → TableDesign → List NamedKey
read_keys s table =
    (if is_empty (attributes table.key) then [] else key_named s Primary (attributes table.key) ∷ [])
    ++ map (key_named s Unique) (filter (is_never_missing s) (known_keys table.other_keys))

-- facts state a table: its columns, and its keys
pub record StatesTable (d : Dialect) (s : Schema) (table : TableDesign) (f : Facts) : Type 0 where
  pub found : f.found ≡ true
  pub columns : f.columns ≡ read_columns d s table
  pub keys : map named_key f.keys ≡ read_keys s table

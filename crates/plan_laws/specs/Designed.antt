-- The tables of a migration as those of a design: for the laws of `designed`. `Desk` does not cite it.
use Rattle.std.specs.Prelude.{◌≡◌, ℕ, List, length, slice_get, Some, Contains}
use Rattle.attr_sets.specs.Attributes.{Attributes}
use Rattle.attr_sets.specs.Sets.{attributes}
use Rattle.csv_migrate.specs.Migration.{column_names}
use Rattle.optional_tables.specs.LookUps.{empty_values}
use Rattle.schema_model.specs.Schemas.{nullable_of}
use Rattle.schema_model.specs.Schemas.{Schema}
use Rattle.ddl_text.specs.Designs.{known_keys}
use Rattle.ddl_text.specs.KeysAndReferences.{KeyHolds, ReferenceHolds}
use Rattle.ddl_text.specs.declared.table.TableDesign.{TableDesign}
use Rattle.named_tables.specs.Tables.{TableValue}

-- a table has the name of a designed one, and its columns: the attributes of its scheme, ascending
pub record IsDesignedAs (schema : Schema) (design : TableDesign) (table : TableValue) : Type 0 where
  pub name : table.name ≡ design.name
  pub columns : table.columns ≡ column_names schema (attributes design.scheme)

-- tables are those of a design: as many, and each is as designed
pub record AreDesignedAs (schema : Schema) (designs : List TableDesign) (tables : List TableValue) : Type 0 where
  pub one_each : length tables ≡ length designs
  pub each : (k : ℕ) (design : TableDesign) (table : TableValue) → slice_get designs k ≡ Some design
      → slice_get tables k ≡ Some table → IsDesignedAs schema design table

-- in each table the key of the designed one holds
abbrev pub KeysHoldIn : List TableDesign → List TableValue → Type 0
KeysHoldIn designs tables =
    (k : ℕ) (design : TableDesign) (table : TableValue) → slice_get designs k ≡ Some design
    → slice_get tables k ≡ Some table
    → KeyHolds (attributes design.scheme) table.rows (attributes design.key)

-- so does each of its other keys
abbrev pub OtherKeysHoldIn : List TableDesign → List TableValue → Type 0
OtherKeysHoldIn designs tables =
    (k : ℕ) (design : TableDesign) (table : TableValue) → slice_get designs k ≡ Some design
    → slice_get tables k ≡ Some table → (key : Attributes) → Contains (known_keys design.other_keys) key
    → KeyHolds (attributes design.scheme) table.rows key

-- each reference of a designed table holds between the table and the one that it refers to, for the rows that miss no
-- value of it
abbrev pub ReferencesHoldIn : Schema → List TableDesign → List TableValue → Type 0
ReferencesHoldIn schema designs tables =
    (k j : ℕ) (design other : TableDesign) (table other_table : TableValue)
    → slice_get designs k ≡ Some design → slice_get tables k ≡ Some table
    → Contains design.refs.items j → slice_get designs j ≡ Some other → slice_get tables j ≡ Some other_table
    → ReferenceHolds (empty_values (nullable_of schema)) (attributes design.scheme) table.rows (attributes other.scheme)
    other_table.rows (attributes other.key)

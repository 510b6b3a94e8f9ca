-- What is imported of a table that `ddl` prints: for the laws.
use Rattle.std.specs.Prelude.{ℕ, Bool, false, not, if◌then◌else◌, List, [], ◌∷◌, ◌++◌, length, map, filter, slice_get, slice_index_or, Option, Some, None}
use Rattle.attr_sets.specs.Attributes.{Attributes, below, difference}
use Rattle.attr_sets.specs.Sets.{attributes, is_subset}
use Rattle.dep_model.specs.Dependencies.{Dependency, fd}
use Rattle.schema_model.specs.declared.column_type.ColumnType.TheVariants as type
use Rattle.schema_model.specs.declared.naming.Naming.TheVariants.{Any}
use Rattle.schema_model.specs.Schemas.{Schema}
use Rattle.dep_model.specs.Projections.{members_below}
use Rattle.schema_model.specs.Schemas.{names_of, types_of, width_of}
use Rattle.schema_grammar.specs.Declarations.{Declarations}
use Rattle.ddl_text.specs.Ddl.{is_empty, is_never_missing}
use Rattle.ddl_text.specs.Designs.{known_keys}
use Rattle.ddl_text.specs.declared.table.TableDesign.{TableDesign}
use Rattle.sql_lexemes.specs.declared.dialect.Dialect.{Dialect}
use Rattle.import_laws.specs.ReadTables.{read_nullable}
use Rattle.import_laws.specs.StatedTypes.{read_type}

-- the attributes of a table, in the order of its columns
abbrev pub columns_of : Schema → TableDesign → List ℕ
columns_of s table = members_below (width_of s) (attributes table.scheme)

-- a set has the attribute that is there, if one is
abbrev pub has : Attributes → Option ℕ → Bool
has x None = false
has x (Some a) = x a

-- the places of the attributes of a set in a list of attributes
abbrev pub places_in : List ℕ → Attributes → Attributes
places_in columns x j = has x (slice_get columns j)

-- the keys that the SQL of a table states: its key, if it is not empty, and the others of which no value may be missing
abbrev pub declared_keys : Schema → TableDesign → List Attributes
declared_keys s table =
    (if is_empty (attributes table.key) then [] else attributes table.key ∷ [])
    ++ filter (is_never_missing s) (known_keys table.other_keys)

-- those that do not have all columns
abbrev pub imported_keys : Schema → TableDesign → List Attributes
imported_keys s table = filter (λ key. not (is_subset (attributes table.scheme) key)) (declared_keys s table)

-- some of n columns determine all others
abbrev pub determines_others : ℕ → Attributes → Dependency
determines_others n x = fd x (difference (below n) x)

-- the schema that is imported of a table: its columns with their names, the types that are read, and those among
-- them of which a value may be missing; and for each imported key, that it determines all other columns
abbrev pub imported_table : Dialect → Schema → TableDesign → List ℕ → Declarations
imported_table d s table lines = record {
  names = map (λ a. slice_index_or (names_of s) a []) (columns_of s table);
  columns = map (λ a. read_type d (slice_index_or (types_of s) a type.Text)) (columns_of s table);
  deps = map (λ key. determines_others (length (columns_of s table)) (places_in (columns_of s table) key))
      (imported_keys s table);
  lines = lines;
  naming = Any;
  nullable = places_in (columns_of s table) (read_nullable d s table);
}

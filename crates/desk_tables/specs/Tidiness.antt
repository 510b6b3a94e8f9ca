-- Rows of which a table would lose a value: for `migrate`, before it makes tables. A table has no row for a row
-- that misses a value of its key.
use Rattle.std.specs.Prelude.{◌≡◌, ℕ, ◌+◌, ◌<◌, ◌&&◌, true, false, not, List, ◌++◌, codes, length, take, All, Option}
use Rattle.std.specs.Prelude.{Some, None}
use Rattle.std.specs.Fmt.{decimal}
use Rattle.std.specs.List.{AllZip, flat_map}
use Rattle.attr_sets.specs.Attributes.{Attributes, IsFirstFrom}
use Rattle.attr_sets.specs.Sets.{attributes}
use Rattle.dep_model.specs.Tuples.{Tuple, Relation, value_at}
use Rattle.design_order.specs.Order.{IsInDesignOrder}
use Rattle.optional_tables.specs.Homes.{has_outside_key}
use Rattle.optional_tables.specs.LookUps.{IsTidyFor, Missing, empty_values, misses_none, schemes_of_tables}
use Rattle.optional_tables.specs.Order.{if_there}
use Rattle.optional_tables.specs.declared.keyed.KeyedScheme.{KeyedScheme}
use Rattle.primary_keys.specs.PrimaryKeys.{IsPrimaryKey}
use Rattle.row_store.specs.Rows.{row_at}
use Rattle.schema_model.specs.Schemas.{Schema, nullable_of, theory_of, width_of}
use Rattle.schema_printer.specs.Spelling.{printed_names_of}
use Rattle.desk_responses.specs.declared.status.Status.TheVariants.{No}
use Rattle.desk_responses.specs.Lines.{attribute_name}
use Rattle.desk_responses.specs.ResponseValues.{Allowed, Says, Unless}
use Rattle.desk_tables.specs.declared.tidiness.Untidy.{Untidy}
use Rattle.desk_texts.specs.Texts.{line}

-- ---- the tables of a plan with their keys
-- the key of a table is the primary key of its scheme
abbrev pub HasPrimaryKey : Schema → KeyedScheme → Type 0
HasPrimaryKey schema table =
    IsPrimaryKey (width_of schema) (theory_of schema) (nullable_of schema) (attributes table.scheme)
    (attributes table.key)

-- the schemes of a plan in the order of a design, each with its primary key
pub record IsKeyedDesign (schema : Schema) (plan : List Attributes) (design : List KeyedScheme) : Type 0 where
  pub order : IsInDesignOrder (width_of schema) (theory_of schema) plan (schemes_of_tables design)
  pub keys : All (HasPrimaryKey schema) design

-- ---- what would be lost
-- the attributes of a set of which a row misses the value, and those of which it has one
abbrev pub missing_among : Missing → Attributes → Tuple → Attributes
missing_among missing x t k = x k && missing k (value_at t k)

abbrev pub present_among : Missing → Attributes → Tuple → Attributes
present_among missing x t k = x k && not (missing k (value_at t k))

-- a row that misses a value of the key of a table misses all that the table has beside
abbrev pub IsTidyRow : Missing → KeyedScheme → Tuple → Type 0
IsTidyRow missing table t =
    misses_none missing (attributes table.key) t ≡ false
    → (a : ℕ) → has_outside_key table a ≡ true → missing a (value_at t a) ≡ true

-- a row that misses a value of the key of a table and has one beside it, with the first such attributes
pub record IsUntidyAt (missing : Missing) (table : KeyedScheme) (t : Tuple) (found : Untidy) : Type 0 where
  pub in_key : IsFirstFrom (missing_among missing (attributes table.key) t) 0 found.missing
  pub beside : IsFirstFrom (present_among missing (has_outside_key table) t) 0 found.present

-- the first such row of some, by its number from 1
pub record IsFirstUntidy (missing : Missing) (rows : Relation) (table : KeyedScheme) (found : Untidy) : Type 0 where
  pub index : ℕ
  pub number : found.row ≡ index + 1
  pub within : index < length rows
  pub untidy : IsUntidyAt missing table (row_at rows index) found
  pub earlier : IsTidyFor missing (take index rows) table

-- what is found for a table
abbrev pub FindsUntidy : Missing → Relation → KeyedScheme → Option Untidy → Type 0
FindsUntidy missing rows table None = IsTidyFor missing rows table
FindsUntidy missing rows table (Some found) = IsFirstUntidy missing rows table found

-- what is found for tables, in their order
abbrev pub AreUntidy : Missing → Relation → List KeyedScheme → List Untidy → Type 0
AreUntidy missing rows design found =
    (each : List (Option Untidy)) × AllZip (FindsUntidy missing rows) design each × (found ≡ flat_map if_there each)

-- ---- texts
abbrev pub untidy_text : Schema → Untidy → List ℕ
untidy_text schema found =
    line (codes "row " ++ decimal found.row ++ codes ": "
    ++ attribute_name (printed_names_of schema) found.missing ++ codes " is missing and "
    ++ attribute_name (printed_names_of schema) found.present ++ codes " is not")

abbrev pub untidy_texts : Schema → List Untidy → List ℕ
untidy_texts schema found = flat_map (untidy_text schema) found

-- ---- answers
-- for each table of a plan a row that misses a value of its key misses all that it has beside
abbrev pub AreTidy : Schema → List Attributes → Relation → Type 0
AreTidy schema plan rows =
    (design : List KeyedScheme) × IsKeyedDesign schema plan design
    × All (IsTidyFor (empty_values (nullable_of schema)) rows) design

-- no, where tables lose values of rows, with a line for each of them
abbrev pub LosesValues : Schema → List KeyedScheme → Relation → Allowed
LosesValues schema design rows response =
    (All (IsTidyFor (empty_values (nullable_of schema)) rows) design → ⊥)
    × ((found : List Untidy) × AreUntidy (empty_values (nullable_of schema)) rows design found
    × Says No (untidy_texts schema found) response)

-- how that ends a command
abbrev pub UntidyStops : Schema → List Attributes → Relation → Allowed
UntidyStops schema plan rows response =
    (design : List KeyedScheme) × IsKeyedDesign schema plan design × LosesValues schema design rows response

-- nothing would be lost with a row that a table lacks, and then the rest follows
abbrev pub WithTidy : Schema → List Attributes → Relation → Allowed → Allowed
WithTidy schema plan rows = Unless (UntidyStops schema plan rows) (AreTidy schema plan rows)

-- The rows of tables of which some are optional, and what is read back from them: for `migrate` and `rejoin`, and for
-- the laws of `sql migrate`.
use Rattle.std.specs.Prelude.{◌≡◌, ◌⊎◌, ℕ, Bool, true, false, not, ◌&&◌, ◌==◌, List, length, filter, map, Contains}
use Rattle.std.specs.List.{AllZip, list_all}
use Rattle.attr_sets.specs.Attributes.{Attributes}
use Rattle.attr_sets.specs.Sets.{attributes}
use Rattle.dep_model.specs.Dependencies.{Dependency}
use Rattle.dep_model.specs.Keys.{IsSuperkey}
use Rattle.dep_model.specs.OnSchemes.{value_in}
use Rattle.dep_model.specs.Projections.{members_below, project_tuple, ordered_projection, IsLossless}
use Rattle.dep_model.specs.Tuples.{Tuple, Relation, value_at}
use Rattle.optional_tables.specs.declared.keyed.KeyedScheme.{KeyedScheme}
use Rattle.optional_tables.specs.Homes.{is_optional, has_outside_key}
use Rattle.optional_tables.specs.Readable.{IsReadable}
use Rattle.optional_tables.specs.Order.{always_filled, look_up_order, members_at, HomesComeFirst}

-- ---- missing values
-- which values of an attribute are missing
abbrev pub Missing : Type 0
Missing = ℕ → List ℕ → Bool

-- in files: the empty value, of an attribute of which a value may be missing
abbrev pub empty_values : Attributes → Missing
empty_values nullable k v = nullable k && (length v == 0)

-- a tuple misses no value of a set of attributes
abbrev pub misses_none : Missing → Attributes → Tuple → Bool
misses_none missing x t = list_all (λ k. not (missing k (value_at t k))) (members_below (length t) x)

-- ---- rows of tables
-- the tuples that are complete for a table: those that miss no value of its key
abbrev pub complete_tuples : Missing → KeyedScheme → Relation → Relation
complete_tuples missing table r = filter (misses_none missing (attributes table.key)) r

-- the rows of a table: the projections of the tuples that are complete for it, each once
abbrev pub rows_for : Missing → Relation → KeyedScheme → Relation
rows_for missing r table = ordered_projection (attributes table.scheme) (complete_tuples missing table r)

-- a tuple that is not complete for a table misses all that the table has beside its key
abbrev pub IsTidyFor : Missing → Relation → KeyedScheme → Type 0
IsTidyFor missing r table =
    (t : Tuple) → Contains r t → misses_none missing (attributes table.key) t ≡ false
    → (a : ℕ) → has_outside_key table a ≡ true → missing a (value_at t a) ≡ true

-- ---- looking up
-- a row of a table has the key of a tuple over all attributes
abbrev pub HasKeyOf : KeyedScheme → Tuple → Tuple → Type 0
HasKeyOf table t row = (k : ℕ) → attributes table.key k ≡ true → value_in (attributes table.scheme) row k ≡ value_at t k

-- a tuple is found in a table: it misses no value of the key, and its projection is a row there
pub record IsFound (missing : Missing) (table : KeyedScheme) (rows : Relation) (t : Tuple) : Type 0 where
  pub complete : misses_none missing (attributes table.key) t ≡ true
  pub stands : Contains rows (project_tuple (attributes table.scheme) t)

-- it is not: it misses a value of the key, or no row there has its key; and it misses all that the table has beside
pub record IsNotFound (missing : Missing) (table : KeyedScheme) (rows : Relation) (t : Tuple) : Type 0 where
  pub none_there : misses_none missing (attributes table.key) t ≡ true
      → (row : Tuple) → Contains rows row → HasKeyOf table t row → ⊥
  pub beside : (a : ℕ) → has_outside_key table a ≡ true → missing a (value_at t a) ≡ true

-- what a tuple over all attributes has in a table: its row, or where the table is optional what is looked up there
abbrev pub FitsAs : Bool → Missing → KeyedScheme → Relation → Tuple → Type 0
FitsAs false missing table rows t = Contains rows (project_tuple (attributes table.scheme) t)
FitsAs true missing table rows t = IsFound missing table rows t ⊎ IsNotFound missing table rows t

abbrev pub FitsIn : Attributes → Missing → Tuple → KeyedScheme → Relation → Type 0
FitsIn nullable missing t table rows = FitsAs (is_optional nullable table) missing table rows t

-- a tuple over n attributes is read back from tables: the natural join of those that are not optional, and from the
-- others what is looked up
pub record IsReadBack (n : ℕ) (nullable : Attributes) (missing : Missing) (tables : List KeyedScheme)
    (relations : List Relation) (t : Tuple) : Type 0 where
  pub over : length t ≡ n
  pub in_each : AllZip (FitsIn nullable missing t) tables relations

-- a value is missing only where one may be, and an attribute has one missing value at most
pub record AreMissingValues (nullable : Attributes) (missing : Missing) : Type 0 where
  pub only : (k : ℕ) (v : List ℕ) → missing k v ≡ true → nullable k ≡ true
  pub one : (k : ℕ) (v w : List ℕ) → missing k v ≡ true → missing k w ≡ true → v ≡ w

-- the schemes of tables
abbrev pub schemes_of_tables : List KeyedScheme → List Attributes
schemes_of_tables tables = map (λ table. attributes table.scheme) tables

-- tables in which legal rows lose nothing, where the optional ones are looked up: each key determines its scheme, and
-- each optional table has its home before it in the order of look-ups
pub record CanBeReadBack (n : ℕ) (ds : List Dependency) (nullable : Attributes) (tables : List KeyedScheme)
    : Type 0 where
  pub lossless : IsLossless n ds (schemes_of_tables tables)
  pub keys : (table : KeyedScheme) → Contains tables table
      → IsSuperkey n ds (attributes table.scheme) (attributes table.key)
  pub readable : IsReadable nullable tables
  pub homes_first : HomesComeFirst nullable (members_at tables (always_filled nullable tables))
      (members_at tables (look_up_order nullable tables))

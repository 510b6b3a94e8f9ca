-- The design of tables for the schemes of a plan: for `design` and the commands `ddl`, `draw` and
-- `sql migrate` (`desk_designs/Designs`).
use Rattle.std.specs.Prelude.{◌≡◌, ℕ, ◌+◌, ◌<◌, ◌≤◌, ◌↔◌, ◌⊎◌, not, List, [], length, take, filter, slice_get, slice_index_or, Option, Some, None, IsSomeAnd, All, AllPairs, Contains, Vec}
use Rattle.std.specs.declared.alloc.Global.{Global}
use Rattle.attr_sets.specs.Attributes.{Attributes, IsSubset, IsEmpty}
use Rattle.attr_sets.specs.Sets.{attributes, is_same}
use Rattle.attr_sets.specs.declared.set.AttrSet.{AttrSet}
use Rattle.dep_model.specs.Plans.{schemes_of}
use Rattle.schema_model.specs.Schemas.{width_of, theory_of, nullable_of}
use Rattle.schema_model.specs.Schemas.{Schema}
use Rattle.fd_closure.specs.LeftSides.{IsWideScheme}
use Rattle.key_listing.specs.declared.refusal.TheConstants.{MOST_KEYS}
use Rattle.key_listing.specs.Listing.{AreAllKeys, AreManyKeys}
use Rattle.optional_tables.specs.declared.keyed.KeyedScheme.{KeyedScheme}
use Rattle.primary_keys.specs.PrimaryKeys.{IsPrimaryKey}
use Rattle.table_names.specs.TableNames.{GivenNames, name_of_table}
use Rattle.ddl_text.specs.declared.table.TableDesign.{TableDesign}

-- a scheme refers to a table whose key is not empty and lies within it
pub record RefersTo (scheme : Attributes) (table : TableDesign) : Type 0 where
  pub not_empty : IsEmpty (attributes table.key) → ⊥
  pub within : IsSubset (attributes table.key) scheme

-- exactly the positions of those earlier tables that a scheme refers to, ascending
pub record AreReferences (earlier : List TableDesign) (scheme : Attributes) (refs : List ℕ) : Type 0 where
  pub exactly : (j : ℕ) → Contains refs j ↔ IsSomeAnd (slice_get earlier j) (RefersTo scheme)
  pub ascending : AllPairs ◌<◌ refs

-- keys but for one
abbrev pub without_key : Attributes → List AttrSet → List AttrSet
without_key key keys = filter (λ k. not (is_same (attributes k) key)) keys

-- all keys of a scheme but for one, ascending, where they are within the limits of what is listed
pub record AreListedBeside (s : Schema) (scheme key : Attributes) (keys : List AttrSet) : Type 0 where
  pub not_empty : IsEmpty key → ⊥
  pub narrow : IsWideScheme (theory_of s) scheme → ⊥
  pub all : (all : List AttrSet) × AreAllKeys (width_of s) (theory_of s) scheme all × (length all ≤ MOST_KEYS)
      × (keys ≡ without_key key all)

-- a scheme is beyond these limits: it is too wide, or it has too many keys
abbrev pub IsBeyondListing : Schema → Attributes → Type 0
IsBeyondListing s scheme =
    IsWideScheme (theory_of s) scheme ⊎ ((found : List AttrSet) × AreManyKeys (width_of s) (theory_of s) scheme found)

-- the keys of a scheme beside one: an empty key is the only one; they are not looked for where the
-- scheme is beyond the limits
abbrev pub AreOtherKeys : Schema → Attributes → Attributes → Option (Vec AttrSet Global) → Type 0
AreOtherKeys s scheme key None = (IsEmpty key → ⊥) × IsBeyondListing s scheme
AreOtherKeys s scheme key (Some keys) = (IsEmpty key × (keys.items ≡ [])) ⊎ AreListedBeside s scheme key keys.items

-- the scheme of a table, and its key
abbrev pub keyed : TableDesign → KeyedScheme
keyed table = record { scheme = table.scheme; key = table.key }

-- the other keys of a table as sets, where they are known
abbrev pub known_keys : Option (Vec AttrSet Global) → List Attributes
known_keys None = []
known_keys (Some keys) = schemes_of keys.items

-- the table of a scheme, after the earlier ones, with the name that is given to it, or else that of its number
pub record IsTableOf (s : Schema) (names : GivenNames) (earlier : List TableDesign) (scheme : AttrSet)
    (table : TableDesign) : Type 0 where
  pub number : table.number ≡ length earlier + 1
  pub name : table.name ≡ name_of_table names (length earlier)
  pub columns : table.scheme ≡ scheme
  pub key : IsPrimaryKey (width_of s) (theory_of s) (nullable_of s) (attributes scheme) (attributes table.key)
  pub other_keys : AreOtherKeys s (attributes scheme) (attributes table.key) table.other_keys
  pub refs : AreReferences earlier (attributes scheme) table.refs.items

-- the design of a plan: a table for each scheme, in order
pub record IsDesign (s : Schema) (names : GivenNames) (schemes : List AttrSet) (tables : List TableDesign)
    : Type 0 where
  pub one_each : length tables ≡ length schemes
  pub each : (k : ℕ) → k < length schemes → (scheme : AttrSet) (table : TableDesign)
      → IsTableOf s names (take k tables) (slice_index_or schemes k scheme) (slice_index_or tables k table)

-- each reference of a table names an earlier one
abbrev pub ReferToEarlier : List TableDesign → Type 0
ReferToEarlier tables =
    (k : ℕ) (table : TableDesign) → slice_get tables k ≡ Some table → All (λ j. j < k) table.refs.items

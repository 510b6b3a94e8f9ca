-- Keys of rows by lists of columns, and how they are found: for `key_values` and `add_targets`.
use Rattle.std.specs.Prelude.{◌≡◌, ◌<◌, ◌≤◌, ◌⊎◌, ◌↔◌, ℕ, true, List, length, All, Any, Contains}
use Rattle.attr_sets.specs.Attributes.{Attributes, IsSubset, below, count_below, only, union}
use Rattle.attr_sets.specs.Sets.{attributes}
use Rattle.attr_sets.specs.declared.set.AttrSet.{AttrSet}
use Rattle.attr_sets.specs.declared.set.TheConstants.{MOST_ATTRIBUTES}
use Rattle.dep_model.specs.Projections.{members_below}
use Rattle.dep_model.specs.Tuples.{Tuple, Relation}
use Rattle.fd_search.specs.Keys.{IsRowKey}
use Rattle.file_references.specs.Columns.{HasMatch, misses_none, values_on}
use Rattle.row_groups.specs.Numberings.{number_at}
use Rattle.row_store.specs.Rows.{row_at}

-- ---- one key
-- no row misses a value at columns, and no two different rows have the same values there
pub record IsWholeKey (r : Relation) (columns : List ℕ) : Type 0 where
  pub whole : (t : Tuple) → Contains r t → misses_none columns t ≡ true
  pub identifies : (t u : Tuple) → Contains r t → Contains r u → values_on columns t ≡ values_on columns u → t ≡ u

-- these are the values of the rows at columns
abbrev pub AreValues : Relation → List ℕ → Relation → Type 0
AreValues r columns values = (v : Tuple) → Contains values v ↔ HasMatch r columns v

-- the columns are such a key, and these are the values of the rows there
pub record HoldsKey (r : Relation) (columns : List ℕ) (values : Relation) : Type 0 where
  pub key : IsWholeKey r columns
  pub exact : AreValues r columns values

-- so it is for the first i rows: each list of values is kept with a row that has it, and whoever has it
-- is that row
pub record HoldsKeySoFar (r : Relation) (columns : List ℕ) (i : ℕ) (values : Relation) (firsts : List ℕ)
    : Type 0 where
  pub one_each : length firsts ≡ length values
  pub first : (g : ℕ) → g < length firsts
      → (number_at firsts g < i) × (values_on columns (row_at r (number_at firsts g)) ≡ row_at values g)
  pub whole : (j : ℕ) → j < i → misses_none columns (row_at r j) ≡ true
  pub listed : (j : ℕ) → j < i → Contains values (values_on columns (row_at r j))
  pub agree : (j g : ℕ) → j < i → g < length firsts → values_on columns (row_at r j) ≡ row_at values g
      → row_at r j ≡ row_at r (number_at firsts g)

-- ---- sets of columns by their sizes
-- all subsets of a set that have so many members
pub record AreAllOfSize (whole : Attributes) (size : ℕ) (sets : List AttrSet) : Type 0 where
  pub each : All (λ s. IsSubset (attributes s) whole × (count_below (attributes s) MOST_ATTRIBUTES ≡ size)) sets
  pub all : (x : Attributes) → IsSubset x whole → count_below x MOST_ATTRIBUTES ≡ size
      → Any (λ s. attributes s ≡ x) sets

-- one attribute of a set was added to another, beyond all that it has: each of those up to an attribute
abbrev pub IsLarger : Attributes → Attributes → ℕ → ℕ → AttrSet → Type 0
IsLarger whole x most a s =
    (a < most) × (whole a ≡ true) × IsSubset x (below a) × (attributes s ≡ union x (only a))

pub record AddsLargerUpTo (whole x : Attributes) (most : ℕ) (old new : List AttrSet) : Type 0 where
  pub kept : (s : AttrSet) → Contains old s → Contains new s
  pub no_other : (s : AttrSet) → Contains new s → Contains old s ⊎ ((a : ℕ) × IsLarger whole x most a s)
  pub all : (a : ℕ) → a < most → whole a ≡ true → IsSubset x (below a) → (s : AttrSet) × Contains new s
      × (attributes s ≡ union x (only a))

abbrev pub AddsLarger : Attributes → Attributes → List AttrSet → List AttrSet → Type 0
AddsLarger whole x old new = AddsLargerUpTo whole x MOST_ATTRIBUTES old new

-- ---- all keys
-- one to so many of n columns, and where they are several, among those that are shared
pub record IsLooked (n : ℕ) (shared : Attributes) (size : ℕ) (x : Attributes) : Type 0 where
  pub within : IsSubset x (below n)
  pub some : 0 < count_below x MOST_ATTRIBUTES
  pub few : count_below x MOST_ATTRIBUTES ≤ size
  pub alone : (count_below x MOST_ATTRIBUTES ≡ 1) ⊎ IsSubset x shared

-- exactly those of so many
pub record AreLooked (n : ℕ) (shared : Attributes) (size : ℕ) (sets : List AttrSet) : Type 0 where
  pub each : All (λ s. IsLooked n shared size (attributes s) × (count_below (attributes s) MOST_ATTRIBUTES ≡ size)) sets
  pub all : (x : Attributes) → IsLooked n shared size x → count_below x MOST_ATTRIBUTES ≡ size
      → Any (λ s. attributes s ≡ x) sets

-- minimal keys of rows with n columns. Each set of at most so many columns, and each of some others,
-- that is a key without missing values has one of them within it
pub record KnowsKeys (n : ℕ) (r : Relation) (shared : Attributes) (size : ℕ) (sets keys : List AttrSet)
    : Type 0 where
  pub each : All (λ k. IsRowKey n r (attributes k)) keys
  pub all : (x : Attributes) → IsLooked n shared size x ⊎ Any (λ s. attributes s ≡ x) sets
      → IsWholeKey r (members_below n x) → Any (λ k. IsSubset (attributes k) x) keys

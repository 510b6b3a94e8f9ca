-- The counts that code holds: for each set of columns, how many of the different rows agree with each of them on it.
-- For the functions below `discover_all`. `Desk` does not cite it.
use Rattle.std.specs.Prelude.{◌≡◌, ◌<◌, ◌≤◌, ◌^◌, ℕ, List, [], length, slice_index_or}
use Rattle.attr_sets.specs.Sets.{attributes}
use Rattle.attr_sets.specs.declared.set.AttrSet.{AttrSet}
use Rattle.row_groups.specs.Numberings.{number_at}
use Rattle.dep_model.specs.Tuples.{Relation}
use Rattle.row_store.specs.declared.limits.TheConstants.{WIDEST_WITH_ALL}
use Rattle.mvd_laws.specs.Sizes.{AreDifferentRows, AreSizes, size_at}
use Rattle.mvd_discovery.specs.declared.counts.Counts.{Counts}

-- the sizes by the set of a number
abbrev pub sizes_at : Counts → ℕ → List ℕ
sizes_at counts number = slice_index_or counts.by_set.items number []

-- there are sizes by a set
abbrev pub has_place : Counts → AttrSet → Type 0
has_place counts set = set.0 < length counts.by_set.items

-- the set of a number
abbrev pub set_of : ℕ → AttrSet
set_of number = record { 0 = number }

-- the sizes of rows by each set of their columns
pub record AreCounts (r : Relation) (counts : Counts) : Type 0 where
  pub narrow : counts.width ≤ WIDEST_WITH_ALL
  pub all : length counts.by_set.items ≡ 2 ^ counts.width
  pub ones : List ℕ
  pub different : AreDifferentRows counts.width r ones
  pub sizes : (number : ℕ) → number < 2 ^ counts.width
      → AreSizes r ones (attributes (set_of number)) (sizes_at counts number)

-- of rows at these positions, how many have the number of each
pub record ArePartSizes (numbers positions sizes : List ℕ) : Type 0 where
  pub one_each : length sizes ≡ length positions
  pub each : (j : ℕ) → j < length positions → number_at sizes j
      ≡ size_at (λ k. number_at numbers (number_at positions k)) (length positions) j

-- Ascending lists of sets, and where they are cut in two. For the question whether one lies within
-- a set. `Desk` does not cite it.
use Rattle.std.specs.Prelude.{◌≡◌, ℕ, ◌<◌, true, false, List, length, AllPairs, slice_index_or}
use Rattle.attr_sets.specs.Attributes.{Attributes, IsBefore}
use Rattle.attr_sets.specs.declared.set.AttrSet.{AttrSet}
use Rattle.attr_sets.specs.Sets.{attributes}

-- each set comes before all later ones
abbrev pub Ascend : List AttrSet → Type 0
Ascend sets = AllPairs (λ s t. IsBefore (attributes s) (attributes t)) sets

-- k is the greatest attribute in which x and y differ, and y has it
pub record IsCut (x y : Attributes) (k : ℕ) : Type 0 where
  pub lacks : x k ≡ false
  pub has : y k ≡ true
  pub above : (j : ℕ) → k < j → x j ≡ y j

-- the sets without an attribute stand before those with it
abbrev pub ArePartedAt : List AttrSet → ℕ → Type 0
ArePartedAt sets k = (i j : ℕ) (d : AttrSet) → i < j → j < length sets
    → attributes (slice_index_or sets j d) k ≡ false
    → attributes (slice_index_or sets i d) k ≡ false

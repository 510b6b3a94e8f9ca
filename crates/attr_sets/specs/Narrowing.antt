-- What is left of a set where its attributes are tried one after the other, and each is left out where what stands
-- beside it passes a test: for greedy keys (`dep_model/Keys`), primary keys (`primary_keys/PrimaryKeys`) and
-- shortened left sides (`min_cover/Members`).
use Rattle.std.specs.Prelude.{◌≡◌, ◌<◌, ◌^◌, ◌↔◌, ℕ, Bool, true, false, not, ◌&&◌, nat_lt, if◌then◌else◌}
use Rattle.attr_sets.specs.declared.narrowing.Direction.{Direction}
use Rattle.attr_sets.specs.declared.narrowing.Direction.TheVariants.{Ascending, Descending}
use Rattle.attr_sets.specs.declared.set.AttrSet.{AttrSet}
use Rattle.attr_sets.specs.declared.set.TheConstants.{MOST_ATTRIBUTES}
use Rattle.attr_sets.specs.Attributes.{Attributes, IsSubset}
use Rattle.attr_sets.specs.Sets.{attributes}

-- whether attribute k is tried before attribute a
abbrev pub is_tried_before : Direction → ℕ → ℕ → Bool
is_tried_before Ascending k a = nat_lt k a
is_tried_before Descending k a = nat_lt a k

-- what stands beside attribute a when it is tried: of those tried before it, what was kept, and all that is still
-- to be tried
abbrev pub left_beside : Direction → Attributes → Attributes → ℕ → Attributes
left_beside direction start kept a k =
    if is_tried_before direction k a then kept k else (is_tried_before direction a k && start k)

-- what is left of a set once each attribute of those to be tried was left out exactly where what stands beside it
-- passes
pub record IsNarrowed (direction : Direction) (Passes : Attributes → Type 0) (tried start kept : Attributes)
    : Type 0 where
  pub within : IsSubset kept start
  pub stay : (a : ℕ) → start a ≡ true → tried a ≡ false → kept a ≡ true
  pub left_out : (a : ℕ) → start a ≡ true → tried a ≡ true
      → (kept a ≡ false) ↔ Passes (left_beside direction start kept a)

-- the same by a test of the code, which may answer of a set as `Says` allows: an attribute was left out exactly where
-- the answer of what stands beside it was yes
pub record IsNarrowedBy (direction : Direction) (Says : AttrSet → Bool → Type 0) (tried start kept : Attributes)
    : Type 0 where
  pub within : IsSubset kept start
  pub stay : (a : ℕ) → start a ≡ true → tried a ≡ false → kept a ≡ true
  pub left_out : (a : ℕ) → start a ≡ true → tried a ≡ true
      → (beside : AttrSet) × (beside.0 < 2 ^ MOST_ATTRIBUTES)
      × (attributes beside ≡ left_beside direction start kept a) × Says beside (not (kept a))

-- Subsets that a search passes over, since it is known of all of them that they do not violate a form:
-- for the searches of normal_forms. `Desk` does not cite it.
use Rattle.std.specs.Prelude.{◌≡◌, ℕ, Bool, true, false, List}
use Rattle.attr_sets.specs.Attributes.{Attributes, only, difference, IsSubset, IsBefore}
use Rattle.dep_model.specs.Dependencies.{Dependency, functional_part}
use Rattle.dep_model.specs.Theories.{theory_of}
use Rattle.dep_model.specs.Theories.{Theory}
use Rattle.dep_basis.specs.Parts.{HasTwoParts}

-- the dependencies that a search goes by: the functional ones alone, or all
abbrev pub theory_by : Bool → Theory → List Dependency
theory_by true s = functional_part (theory_of s)
theory_by false s = theory_of s

-- x lies between two sets
abbrev pub LiesBetween : Attributes → Attributes → Attributes → Type 0
LiesBetween least most x = IsSubset least x × IsSubset x most

-- P holds of no subset of a set that comes after one and not after another
abbrev pub PassesOver : (Attributes → Type 0) → Attributes → Attributes → Attributes → Type 0
PassesOver P whole set last =
    (x : Attributes) → IsSubset x whole → IsBefore set x → (IsBefore last x → ⊥) → P x → ⊥

-- neither a set nor the set without one of its attributes, which a smaller one lacks, has two parts
abbrev pub HasNoPartsAbout : ℕ → List Dependency → Attributes → Attributes → Attributes → Type 0
HasNoPartsAbout n ds scheme least most =
    (HasTwoParts n ds scheme most → ⊥)
    × ((b : ℕ) → most b ≡ true → least b ≡ false → HasTwoParts n ds scheme (difference most (only b)) → ⊥)

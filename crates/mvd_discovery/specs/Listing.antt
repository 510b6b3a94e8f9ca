-- The reduced dependencies that were found so far. For the functions below `discover_all`. `Desk` does not cite it.
use Rattle.std.specs.Prelude.{◌≡◌, ◌<◌, ◌⊎◌, ℕ, true, List, All, AllPairs, Contains}
use Rattle.attr_sets.specs.Attributes.{Attributes, Disjoint, IsBefore, IsFirstFrom}
use Rattle.dep_model.specs.Dependencies.{Dependency, mvd}
use Rattle.dep_model.specs.Tuples.{Relation}
use Rattle.mvd_laws.specs.Reduced.{IsReduced, PrecedesByBlock}

-- a set comes before another, or is the same
abbrev pub IsUpTo : Attributes → Attributes → Type 0
IsUpTo x left = IsBefore x left ⊎ (x ≡ left)

-- a reduced dependency of which so much is known
abbrev pub IsReducedThat : ℕ → Relation → (Attributes → Attributes → Type 0) → Dependency → Type 0
IsReducedThat n r Known d = (x : Attributes) × (y : Attributes) × (d ≡ mvd x y) × IsReduced n r x y × Known x y

-- the reduced dependencies of the left sides that were tried
pub record AreReducedOf (n : ℕ) (r : Relation) (Tried : Attributes → Type 0) (ds : List Dependency) : Type 0 where
  pub each : All (IsReducedThat n r (λ x y. Tried x)) ds
  pub all : (x y : Attributes) → IsReduced n r x y → Tried x → Contains ds (mvd x y)
  pub ascending : AllPairs PrecedesByBlock ds

-- y begins before each attribute of a set
abbrev pub IsAhead : Attributes → Attributes → Type 0
IsAhead y blocks = (i : ℕ) × IsFirstFrom y 0 i × ((k : ℕ) → blocks k ≡ true → i < k)

-- the left sides before one were tried, and of that one the blocks outside a set, all of which begin before it
pub record AreReducedBeside (n : ℕ) (r : Relation) (left blocks : Attributes) (ds : List Dependency) : Type 0 where
  pub each : All (IsReducedThat n r (λ x y. IsBefore x left ⊎ ((x ≡ left) × IsAhead y blocks))) ds
  pub all : (x y : Attributes) → IsReduced n r x y → IsBefore x left ⊎ ((x ≡ left) × Disjoint y blocks)
      → Contains ds (mvd x y)
  pub ascending : AllPairs PrecedesByBlock ds

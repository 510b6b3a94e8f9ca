-- Closed sets of attributes, and the irreducible ones among them: `IsExhibit` of `Exhibits` is made
-- of these.
use Rattle.std.specs.Prelude.{◌≡◌, ℕ, ◌<◌, true, false, List, All, AllPairs, Any}
use Rattle.attr_sets.specs.Attributes.{Attributes, below, IsSubset, IsBefore}
use Rattle.dep_model.specs.Dependencies.{Dependency}
use Rattle.dep_model.specs.Keys.{InClosure}

-- a closed set: attributes of the universe among which is each that they determine
pub record IsClosedSet (n : ℕ) (ds : List Dependency) (c : Attributes) : Type 0 where
  pub universe : IsSubset c (below n)
  pub closed : (a : ℕ) → InClosure n ds c a → c a ≡ true

-- an irreducible closed set: some attribute outside it lies in every closed set that properly holds it,
-- so it is no intersection of others
pub record IsIrreducible (n : ℕ) (ds : List Dependency) (c : Attributes) : Type 0 where
  pub closed : IsClosedSet n ds c
  pub attribute : ℕ
  pub universe : attribute < n
  pub outside : c attribute ≡ false
  pub shared : (d : Attributes) → IsClosedSet n ds d → IsSubset c d → (IsSubset d c → ⊥) → d attribute ≡ true

-- exactly the irreducible closed sets, ascending: of two the greatest attribute that is in one alone decides
pub record AreIrreducible (n : ℕ) (ds : List Dependency) (sets : List Attributes) : Type 0 where
  pub each : All (IsIrreducible n ds) sets
  pub all : (c : Attributes) → IsIrreducible n ds c → Any (λ s. s ≡ c) sets
  pub ascending : AllPairs IsBefore sets

-- Which irreducible closed sets were found so far: for the search of armstrong_rel. `Desk` does not
-- cite it.
use Rattle.std.specs.Prelude.{◌≡◌, ℕ, ◌^◌, ◌<◌, ◌≤◌, ◌⊎◌, List, length, All, AllPairs, Any}
use Rattle.attr_sets.specs.Attributes.{Attributes, intersection, IsBefore}
use Rattle.attr_sets.specs.Sets.{attributes}
use Rattle.attr_sets.specs.declared.set.AttrSet.{AttrSet}
use Rattle.attr_sets.specs.declared.set.TheConstants.{MOST_ATTRIBUTES}
use Rattle.dep_model.specs.Dependencies.{Dependency}
use Rattle.fd_closure.specs.LeftSides.{left_sides}
use Rattle.armstrong_rel.specs.declared.refusal.TheConstants.{MOST_EXHIBITED_ROWS}
use Rattle.armstrong_rel.specs.ClosedSets.{IsIrreducible}

-- what a set has of the left sides comes before a part of them
abbrev pub HasPartBefore : List Dependency → Attributes → Attributes → Type 0
HasPartBefore ds z c = IsBefore (intersection c (left_sides ds)) z

-- what a set has of the left sides comes before a part of them, or is that part
abbrev pub HasPartUpTo : List Dependency → Attributes → Attributes → Type 0
HasPartUpTo ds z c = HasPartBefore ds z c ⊎ (intersection c (left_sides ds) ≡ z)

-- different irreducible closed sets of those that were tried: all, unless they are as many as a relation
-- has no rows for
pub record AreTriedIrreducible (n : ℕ) (ds : List Dependency) (IsTried : Attributes → Type 0)
    (found : List AttrSet) : Type 0 where
  pub each : All (λ s. IsIrreducible n ds (attributes s)) found
  pub tried : All (λ s. IsTried (attributes s)) found
  pub differ : AllPairs (λ s t. attributes s ≡ attributes t → ⊥) found
  -- each is the number of a set
  pub numbers : All (λ s. s.0 < 2 ^ MOST_ATTRIBUTES) found
  pub within_limit : length found ≤ MOST_EXHIBITED_ROWS
  pub all : length found < MOST_EXHIBITED_ROWS → (c : Attributes) → IsIrreducible n ds c → IsTried c
      → Any (λ s. attributes s ≡ c) found

-- the irreducible closed sets, ascending: all, unless they are as many as a relation has no rows for
pub record AreFoundSets (n : ℕ) (ds : List Dependency) (found : List AttrSet) : Type 0 where
  pub each : All (λ s. IsIrreducible n ds (attributes s)) found
  pub ascending : AllPairs (λ s t. IsBefore (attributes s) (attributes t)) found
  pub within_limit : length found ≤ MOST_EXHIBITED_ROWS
  pub all : length found < MOST_EXHIBITED_ROWS → (c : Attributes) → IsIrreducible n ds c
      → Any (λ s. attributes s ≡ c) found

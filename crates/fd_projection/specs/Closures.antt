-- What the parts of a set determine, and which minimal dependencies were found so far: for the search of
-- fd_projection. `Desk` does not cite it.
use Rattle.std.specs.Prelude.{◌≡◌, ◌⊎◌, ◌↔◌, ◌≤◌, ℕ, true, List, length, All, AllPairs, Contains}
use Rattle.attr_sets.specs.Attributes.{Attributes, only, difference, IsBefore}
use Rattle.dep_model.specs.Dependencies.{Dependency, fd}
use Rattle.dep_model.specs.Keys.{InClosure}
use Rattle.fd_projection.specs.declared.refusal.TheConstants.{MOST_LISTED}
use Rattle.fd_projection.specs.Projections.{IsMinimalWithin, IsMinimalFd, Precedes}

-- c has what x determines without one of its attributes
abbrev pub IsClosureOfParts : ℕ → List Dependency → Attributes → Attributes → Type 0
IsClosureOfParts n ds x c =
    (a : ℕ) → (c a ≡ true) ↔ ((b : ℕ) × (x b ≡ true) × InClosure n ds (difference x (only b)) a)

-- x -> a is minimal inside a set, and was tried
pub record IsTriedMinimal (n : ℕ) (ds : List Dependency) (set : Attributes)
    (IsTried : Attributes → ℕ → Type 0) (d : Dependency) : Type 0 where
  pub left : Attributes
  pub attribute : ℕ
  pub is : d ≡ fd left (only attribute)
  pub minimal : IsMinimalWithin n ds set left attribute
  pub tried : IsTried left attribute

-- exactly those minimal dependencies that were tried, in order
pub record AreTriedMinimal (n : ℕ) (ds : List Dependency) (set : Attributes)
    (IsTried : Attributes → ℕ → Type 0) (found : List Dependency) : Type 0 where
  pub each : All (IsTriedMinimal n ds set IsTried) found
  pub all : (x : Attributes) (a : ℕ) → IsMinimalWithin n ds set x a → IsTried x a
      → Contains found (fd x (only a))
  pub ascending : AllPairs Precedes found

-- the left sides before x were tried
abbrev pub TriedBefore : Attributes → Attributes → ℕ → Type 0
TriedBefore x v a = IsBefore v x

-- the left sides before x were tried, and x too
abbrev pub TriedUpTo : Attributes → Attributes → ℕ → Type 0
TriedUpTo x v a = IsBefore v x ⊎ (v ≡ x)

-- the minimal dependencies inside a set: all, unless they are more than are listed
pub record AreFoundWithin (n : ℕ) (ds : List Dependency) (set : Attributes)
    (found : List Dependency) : Type 0 where
  pub each : All (IsMinimalFd n ds set) found
  pub ascending : AllPairs Precedes found
  pub all : length found ≤ MOST_LISTED → (x : Attributes) (a : ℕ) → IsMinimalWithin n ds set x a
      → Contains found (fd x (only a))

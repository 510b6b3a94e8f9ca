-- The minimal functional dependencies that nearly hold, in order, each with its error: for `near_rules` and the
-- command that prints them (`desk_discovery/NearDiscoveries`).
use Rattle.std.specs.Prelude.{◌≡◌, ◌≢◌, ◌<◌, ◌≤◌, ℕ, false, List, [], ◌∷◌, length, All, AllPairs, Contains}
use Rattle.attr_sets.specs.Attributes.{Attributes, below, only, IsSubset, count_below}
use Rattle.dep_model.specs.Dependencies.{Dependency, fd}
use Rattle.dep_model.specs.Tuples.{Relation}
use Rattle.fd_discovery.specs.Minimal.{Precedes}
use Rattle.removal_laws.specs.Errors.{IsError}
use Rattle.near_rules.specs.declared.found.TheConstants.{MOST_TRIED}
use Rattle.near_rules.specs.declared.found.TooManyTried.{TooManyTried}

-- x -> a nearly holds: at most `limit` rows must go so that the others obey it
abbrev pub IsNear : ℕ → ℕ → Relation → Attributes → ℕ → Type 0
IsNear n limit r x a = (e : ℕ) × IsError n r (fd x (only a)) e × (e ≤ limit)

-- a set of at most `most` of n columns, without a, of which no proper part is near for a: it has to be tried
pub record MustBeTried (n most limit : ℕ) (r : Relation) (x : Attributes) (a : ℕ) : Type 0 where
  pub within : IsSubset x (below n)
  pub few : count_below x n ≤ most
  pub outside : x a ≡ false
  pub apart : (v : Attributes) → IsSubset v x → IsNear n limit r v a → IsSubset x v

-- such a set that is near for a
pub record IsMinimalNear (n most limit : ℕ) (r : Relation) (x : Attributes) (a : ℕ) : Type 0 where
  pub right : a < n
  pub tried : MustBeTried n most limit r x a
  pub near : IsNear n limit r x a

-- a minimal dependency that nearly holds, of a set on one attribute
abbrev pub IsNearFd : ℕ → ℕ → ℕ → Relation → Dependency → Type 0
IsNearFd n most limit r d = (x : Attributes) × (a : ℕ) × (d ≡ fd x (only a)) × IsMinimalNear n most limit r x a

-- the error of each dependency
abbrev pub AreErrors : ℕ → Relation → List Dependency → List ℕ → Type 0
AreErrors n r [] [] = Unit {0}
AreErrors n r [] (e ∷ es) = ⊥
AreErrors n r (d ∷ ds) [] = ⊥
AreErrors n r (d ∷ ds) (e ∷ es) = IsError n r d e × AreErrors n r ds es

-- exactly these dependencies, in this order, and their errors
pub record AreNearRules (n most limit : ℕ) (r : Relation) (ds : List Dependency) (errors : List ℕ) : Type 0 where
  pub each : All (IsNearFd n most limit r) ds
  pub all : (x : Attributes) (a : ℕ) → IsMinimalNear n most limit r x a → Contains ds (fd x (only a))
  pub ascending : AllPairs Precedes ds
  pub numbers : AreErrors n r ds errors

-- more sets have to be tried for a than are
pub record ExceedsTried (n most limit : ℕ) (r : Relation) (a : ℕ) : Type 0 where
  pub sets : List Attributes
  pub each : All (λ x. MustBeTried n most limit r x a) sets
  pub differ : AllPairs (λ x y. x ≢ y) sets
  pub more : MOST_TRIED < length sets

-- for no attribute more sets have to be tried than are
abbrev pub IsTriedWhole : ℕ → ℕ → ℕ → Relation → Type 0
IsTriedWhole n most limit r = (a : ℕ) → a < n → ExceedsTried n most limit r a → ⊥

-- the attribute that is named is the first of which more have to be
pub record IsFirstExceeded (n most limit : ℕ) (r : Relation) (refusal : TooManyTried) : Type 0 where
  pub right : refusal.right < n
  pub exceeds : ExceedsTried n most limit r refusal.right
  pub first : (a : ℕ) → a < refusal.right → ExceedsTried n most limit r a → ⊥

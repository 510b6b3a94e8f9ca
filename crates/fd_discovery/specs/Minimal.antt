-- The minimal functional dependencies of rows, in order: for `discover` and the command of that
-- name (`desk_discovery/Discoveries`).
use Rattle.std.specs.Prelude.{◌≡◌, ◌<◌, ◌⊎◌, ℕ, false, List, All, AllPairs, Contains}
use Rattle.attr_sets.specs.Attributes.{Attributes, below, only, IsSubset, IsBefore}
use Rattle.dep_model.specs.Tuples.{Relation}
use Rattle.dep_model.specs.Dependencies.{Dependency, fd, left_of, right_of, ObeysFd}

-- rows obey x -> a, where a is outside x, and they obey v -> a for no proper subset v of x
pub record IsMinimalIn (r : Relation) (x : Attributes) (a : ℕ) : Type 0 where
  pub outside : x a ≡ false
  pub obeys : ObeysFd x (only a) r
  pub minimal : (v : Attributes) → IsSubset v x → ObeysFd v (only a) r → IsSubset x v

-- the same, within n columns
pub record IsMinimalWithin (n : ℕ) (r : Relation) (x : Attributes) (a : ℕ) : Type 0 where
  pub left : IsSubset x (below n)
  pub right : a < n
  pub minimal : IsMinimalIn r x a

-- a minimal dependency of rows, of a set on one attribute
abbrev pub IsMinimalFd : ℕ → Relation → Dependency → Type 0
IsMinimalFd n r d = (x : Attributes) × (a : ℕ) × (d ≡ fd x (only a)) × IsMinimalWithin n r x a

-- a dependency comes before another: by its left side, then by its right side
abbrev pub Precedes : Dependency → Dependency → Type 0
Precedes d e =
    IsBefore (left_of d) (left_of e)
    ⊎ ((left_of d ≡ left_of e) × IsBefore (right_of d) (right_of e))

-- exactly the minimal dependencies of rows within n columns, in this order
pub record AreAllMinimal (n : ℕ) (r : Relation) (ds : List Dependency) : Type 0 where
  pub each : All (IsMinimalFd n r) ds
  pub all : (x : Attributes) (a : ℕ) → IsMinimalWithin n r x a → Contains ds (fd x (only a))
  pub ascending : AllPairs Precedes ds

-- The minimal functional dependencies of rows that have few attributes on the left, in order: for
-- `small_dependencies` and `few_on_the_left`, and for `discover` with a bound (`desk_discovery/Discoveries`).
use Rattle.std.specs.Prelude.{◌≡◌, ◌≤◌, ℕ, Bool, List, All, AllPairs, Contains, nat_le}
use Rattle.attr_sets.specs.Attributes.{Attributes, only, count_below}
use Rattle.attr_sets.specs.declared.set.TheConstants.{MOST_ATTRIBUTES}
use Rattle.dep_model.specs.Dependencies.{Dependency, fd, left_of}
use Rattle.dep_model.specs.Tuples.{Relation}
use Rattle.fd_discovery.specs.Minimal.{IsMinimalWithin, Precedes}

-- rows obey x -> a minimally, and x has at most `most` of n columns
pub record IsSmallWithin (n most : ℕ) (r : Relation) (x : Attributes) (a : ℕ) : Type 0 where
  pub minimal : IsMinimalWithin n r x a
  pub within_limit : count_below x n ≤ most

-- such a dependency of a set on one attribute
abbrev pub IsSmallFd : ℕ → ℕ → Relation → Dependency → Type 0
IsSmallFd n most r d = (x : Attributes) × (a : ℕ) × (d ≡ fd x (only a)) × IsSmallWithin n most r x a

-- exactly these, by their left sides and then by their right sides
pub record AreAllSmall (n most : ℕ) (r : Relation) (ds : List Dependency) : Type 0 where
  pub each : All (IsSmallFd n most r) ds
  pub all : (x : Attributes) (a : ℕ) → IsSmallWithin n most r x a → Contains ds (fd x (only a))
  pub ascending : AllPairs Precedes ds

-- whether a dependency has at most so many attributes on the left
abbrev pub has_few : ℕ → Dependency → Bool
has_few most d = nat_le (count_below (left_of d) MOST_ATTRIBUTES) most

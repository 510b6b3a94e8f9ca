-- Sets that the dependencies inside schemes do not lead out of: for the functions below `losses`.
-- `Desk` does not cite it.
use Rattle.std.specs.Prelude.{◌≡◌, ◌↔◌, ℕ, true, List}
use Rattle.attr_sets.specs.Attributes.{Attributes, union, IsSubset}
use Rattle.dep_model.specs.Dependencies.{Dependency, fd, functional_part}
use Rattle.dep_model.specs.Implication.{Implies}
use Rattle.dep_model.specs.TwoTuples.{two_tuples}
use Rattle.attr_sets.specs.Sets.{attributes}
use Rattle.preservation.specs.Keeping.{InKeptClosure, ObeysInside}
use Rattle.preservation.specs.declared.closing.Closed.{Closed}

-- what a part of c determines by the functional dependencies inside a scheme lies within e
abbrev pub IsFunctionallyClosedIn : ℕ → List Dependency → Attributes → Attributes → Attributes → Type 0
IsFunctionallyClosedIn n ds scheme c e =
    (x y : Attributes) → IsSubset (union x y) scheme → Implies n (functional_part ds) (fd x y) → IsSubset x c
    → IsSubset y e

-- c is all that follows from x by the dependencies inside the schemes of a plan, and the two tuples that
-- agree exactly on it obey these
pub record IsKeptClosure (n : ℕ) (ds : List Dependency) (plan : List Attributes) (x c : Attributes) : Type 0 where
  pub closure : (a : ℕ) → (c a ≡ true) ↔ InKeptClosure n ds plan x a
  pub inside : ObeysInside n ds plan (two_tuples n c)

-- what is known of a left side is all that follows from it
abbrev pub TellsKeptClosure : ℕ → List Dependency → List Attributes → Closed → Type 0
TellsKeptClosure n ds plan kept = IsKeptClosure n ds plan (attributes kept.from) (attributes kept.closed)

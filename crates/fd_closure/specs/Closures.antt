-- Closures of sets of attributes by a list, and those that are kept in a table: for `known_closure`, and
-- for the searches that keep closures. `Desk` does not cite it.
use Rattle.std.specs.Prelude.{◌≡◌, ℕ, ◌↔◌, true, List}
use Rattle.attr_sets.specs.Attributes.{Attributes}
use Rattle.attr_sets.specs.Sets.{attributes}
use Rattle.dep_model.specs.Dependencies.{Dependency}
use Rattle.dep_model.specs.Keys.{InClosure}
use Rattle.fd_closure.specs.declared.known.KnownClosure.{KnownClosure}

-- c is the closure of x
abbrev pub IsClosureOf : ℕ → List Dependency → Attributes → Attributes → Type 0
IsClosureOf n ds x c = (a : ℕ) → (c a ≡ true) ↔ InClosure n ds x a

-- what is kept with a set is its closure
abbrev pub IsKnownClosure : ℕ → List Dependency → KnownClosure → Type 0
IsKnownClosure n ds known = IsClosureOf n ds (attributes known.of) (attributes known.closed)

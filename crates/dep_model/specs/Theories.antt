-- A theory: how many attributes there are, and the dependencies among them. For every contract in which the
-- type `Theory` stands.
use Rattle.std.specs.Prelude.{ℕ, ◌<◌, ◌≤◌, List, length, All}
use Rattle.attr_sets.specs.Attributes.{Attributes, below}
use Rattle.attr_sets.specs.declared.set.TheConstants.{MOST_ATTRIBUTES}
use Rattle.dep_model.specs.declared.dep.Dep.{Dep}
use Rattle.dep_model.specs.declared.theory.TheConstants.{MOST_DEPENDENCIES}
use Rattle.dep_model.specs.Tuples.{Relation}
use Rattle.dep_model.specs.Dependencies.{Dependency}
use Rattle.dep_model.specs.Implication.{IsLegal, Implies}
use Rattle.dep_model.specs.Deps.{dependencies_of, IsDepWithin}

-- dependencies among so many attributes form a theory
pub record IsTheory (width : ℕ) (deps : List Dep) : Type 0 where
  pub not_empty : 0 < width
  pub within_limit : width ≤ MOST_ATTRIBUTES
  pub deps_within_limit : length deps ≤ MOST_DEPENDENCIES
  pub deps_within : All (IsDepWithin (below width)) deps

-- so many attributes, with dependencies among them
pub record Theory : Type 0 where
  pub width : ℕ
  pub deps : List Dep
  pub valid : IsTheory width deps

-- how many attributes there are
abbrev pub width_of : Theory → ℕ
width_of t = t.width

-- the dependencies, in the order in which they are given
abbrev pub deps_of : Theory → List Dep
deps_of t = t.deps

-- all attributes
abbrev pub universe_of : Theory → Attributes
universe_of t = below (width_of t)

-- the dependencies, between sets of attributes
abbrev pub theory_of : Theory → List Dependency
theory_of t = dependencies_of (deps_of t)

-- a relation is legal for a theory
abbrev pub LegalFor : Theory → Relation → Type 0
LegalFor t r = IsLegal (width_of t) (theory_of t) r

-- a theory implies a dependency
abbrev pub ImpliedBy : Theory → Dependency → Type 0
ImpliedBy t d = Implies (width_of t) (theory_of t) d

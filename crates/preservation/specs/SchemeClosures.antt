-- Closures inside the schemes of a plan: for the functions below `losses`. `Desk` does not cite them.
use Rattle.std.specs.Prelude.{◌≡◌, ◌↔◌, ℕ, true, List, map}
use Rattle.attr_sets.specs.Attributes.{Attributes, below, IsSubset}
use Rattle.attr_sets.specs.Sets.{attributes}
use Rattle.attr_sets.specs.declared.set.AttrSet.{AttrSet}
use Rattle.dep_model.specs.Dependencies.{Dependency, functional_part}
use Rattle.dep_model.specs.Keys.{InClosure}
use Rattle.dep_model.specs.Plans.{schemes_of}
use Rattle.preservation.specs.declared.scheme_closure.SchemeClosure.{SchemeClosure}

-- what a part of a scheme determines inside it, by the functional dependencies over n attributes
pub record IsClosureWithin (n : ℕ) (ds : List Dependency) (scheme part closed : Attributes) : Type 0 where
  pub universe : IsSubset scheme (below n)
  pub within : IsSubset part scheme
  pub closure : (a : ℕ) → (closed a ≡ true) ↔ ((scheme a ≡ true) × InClosure n (functional_part ds) part a)

-- the closed set that is kept for a scheme is what its part determines inside the scheme
abbrev pub IsSchemeClosure : ℕ → List Dependency → SchemeClosure → Type 0
IsSchemeClosure n ds closure =
    IsClosureWithin n ds (attributes closure.scheme) (attributes closure.part) (attributes closure.closed)

-- the schemes whose closures are kept
abbrev pub schemes_of_closures : List SchemeClosure → List AttrSet
schemes_of_closures closures = map (λ closure. closure.scheme) closures

-- the plan that they make
abbrev pub plan_of_closures : List SchemeClosure → List Attributes
plan_of_closures closures = schemes_of (schemes_of_closures closures)

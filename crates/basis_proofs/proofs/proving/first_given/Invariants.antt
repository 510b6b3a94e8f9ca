-- What the loop of `first_given` keeps: `All`.
use Rattle.std.proofs.Common.{◌≡◌, take}
use Rattle.std.specs.Prelude.{All}
use Rattle.attr_sets.specs.Sets.{attributes}
use Rattle.dep_model.specs.Dependencies.{mvd}
use Rattle.dep_model.specs.Deps.{dependency_of}
use Rattle.dep_model.specs.Theories.{deps_of}
use Rattle.basis_proofs.proofs.proving.first_given.Given as goal

abbrev pub invariant-loop-number : goal.invariant-loop-number
invariant-loop-number l = All (λ d. dependency_of d ≡ mvd (attributes l.lhs) (attributes l.rhs) → ⊥) (take l.number (deps_of l.theory))

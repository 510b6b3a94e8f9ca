-- What the loop of `first_out` keeps: `All`.
use Rattle.std.proofs.Common.{take}
use Rattle.std.specs.Prelude.{All}
use Rattle.attr_sets.specs.Attributes.{IsSubset}
use Rattle.attr_sets.specs.Sets.{attributes}
use Rattle.dep_model.specs.Theories.{deps_of}
use Rattle.dep_model.proofs.DepLemmas.{IfFd}
use Rattle.basis_proofs.proofs.chains.first_out.Given as goal

abbrev pub invariant-loop-number : goal.invariant-loop-number
invariant-loop-number l = All (IfFd (λ x y. IsSubset x (attributes l.closed) → IsSubset y (attributes l.closed))) (take l.number (deps_of l.theory))

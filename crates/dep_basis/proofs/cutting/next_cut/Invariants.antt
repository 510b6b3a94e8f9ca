-- What the loop of `next_cut` keeps: `All`.
use Rattle.std.proofs.Common.{take}
use Rattle.std.specs.Prelude.{All}
use Rattle.attr_sets.specs.Sets.{attributes}
use Rattle.dep_model.specs.Deps.{dependency_of}
use Rattle.dep_basis.specs.Refining.{LeavesWhole}
use Rattle.dep_basis.proofs.cutting.next_cut.Given as goal

abbrev pub invariant-loop-k : goal.invariant-loop-k
invariant-loop-k l = All (λ d. LeavesWhole (attributes l.part) (attributes l.part) (dependency_of d)) (take l.k l.deps)

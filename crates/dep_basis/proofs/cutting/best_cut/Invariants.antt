-- What the loop of `best_cut` keeps: `none` and `best`.
use Rattle.std.proofs.Common.{take}
use Rattle.std.specs.Prelude.{All, IsNone}
use Rattle.attr_sets.specs.Sets.{attributes}
use Rattle.dep_model.specs.Deps.{dependency_of}
use Rattle.dep_basis.specs.Refining.{LeavesWhole}
use Rattle.dep_basis.proofs.CutLemmas.{IsBestSoFar}
use Rattle.dep_basis.proofs.cutting.best_cut.Given as goal

abbrev pub invariant-loop-k : goal.invariant-loop-k
invariant-loop-k l = record {
  none : IsNone l.best → All (λ d. LeavesWhole (attributes l.part) (attributes l.part) (dependency_of d)) (take l.k l.deps);
  best : IsBestSoFar l.deps (attributes l.part) l.attribute l.k l.best;
}

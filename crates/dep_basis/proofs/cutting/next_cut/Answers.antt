-- What is left to prove of `next_cut`: its clause `none`.
use Rattle.std.proofs.Common.{take_all}
use Rattle.attr_sets.specs.Sets.{attributes}
use Rattle.dep_model.proofs.DepLemmas.{dependencies_all-from}
use Rattle.dep_basis.specs.Refining.{LeavesWhole}
use Rattle.dep_basis.proofs.cutting.next_cut.Goals as goal

pub returns-clause-none : goal.returns-clause-none
returns-clause-none c _ =
    dependencies_all-from (LeavesWhole (attributes c.args.part) (attributes c.args.part)) c.args.deps.now
    (rw (take_all c.loop-k.k c.args.deps.now c.loop-k-test.false) at c.loop-k.invariant)

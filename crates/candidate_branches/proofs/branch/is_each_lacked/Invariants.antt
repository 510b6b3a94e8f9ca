-- What the loop of `is_each_lacked` keeps: exactly the lacked members so far.
use Rattle.attr_sets.specs.Sets.{attributes}
use Rattle.candidate_branches.proofs.LackLemmas.{AreLackedUpTo}
use Rattle.candidate_branches.proofs.branch.is_each_lacked.Given as goal

abbrev pub invariant-loop-one : goal.invariant-loop-one
invariant-loop-one l = AreLackedUpTo l.evidence (attributes l.set) l.column l.one-index (attributes l.lacked)

-- What the loop of `closed_until` keeps: `Grows`; and by what it ends.
use Rattle.std.proofs.Common.{◌-◌}
use Rattle.attr_sets.specs.Attributes.{count_below}
use Rattle.attr_sets.specs.Sets.{attributes}
use Rattle.attr_sets.specs.declared.set.TheConstants.{MOST_ATTRIBUTES}
use Rattle.fd_closure.specs.Growth.{Grows}
use Rattle.fd_closure.proofs.closing.closed_until.Given as goal

abbrev pub invariant-loop-wanted : goal.invariant-loop-wanted
invariant-loop-wanted l = Grows l.deps (attributes l.initial.found) (attributes l.found)

abbrev pub decreases-loop-wanted : goal.decreases-loop-wanted
decreases-loop-wanted l = MOST_ATTRIBUTES - count_below (attributes l.found) MOST_ATTRIBUTES

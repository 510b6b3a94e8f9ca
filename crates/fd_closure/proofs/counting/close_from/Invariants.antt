-- What the loop of `close_from` keeps: `Grows`; and by what it ends.
use Rattle.std.proofs.Common.{◌-◌}
use Rattle.attr_sets.specs.Attributes.{count_below}
use Rattle.attr_sets.specs.Sets.{attributes}
use Rattle.attr_sets.specs.declared.set.TheConstants.{MOST_ATTRIBUTES}
use Rattle.fd_closure.specs.Growth.{Grows}
use Rattle.fd_closure.proofs.counting.close_from.Given as goal

abbrev pub invariant-loop-more : goal.invariant-loop-more
invariant-loop-more l = Grows l.deps (attributes l.initial.closed) (attributes l.closed)

abbrev pub decreases-loop-more : goal.decreases-loop-more
decreases-loop-more l = MOST_ATTRIBUTES - count_below (attributes l.closed) MOST_ATTRIBUTES

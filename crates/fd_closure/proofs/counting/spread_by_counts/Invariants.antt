-- What the loop of `spread_by_counts` keeps: `Grows`.
use Rattle.attr_sets.specs.Sets.{attributes}
use Rattle.fd_closure.specs.Growth.{Grows}
use Rattle.fd_closure.proofs.counting.spread_by_counts.Given as goal

abbrev pub invariant-loop : goal.invariant-loop
invariant-loop l = Grows l.deps (attributes l.initial.closed) (attributes l.closed)

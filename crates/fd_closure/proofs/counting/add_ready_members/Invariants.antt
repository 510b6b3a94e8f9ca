-- What the loop of `add_ready_members` keeps: `Grows`.
use Rattle.attr_sets.specs.Sets.{attributes}
use Rattle.fd_closure.specs.Growth.{Grows}
use Rattle.fd_closure.proofs.counting.add_ready_members.Given as goal

abbrev pub invariant-loop-k : goal.invariant-loop-k
invariant-loop-k l = Grows l.deps (attributes l.initial.more) (attributes l.more)

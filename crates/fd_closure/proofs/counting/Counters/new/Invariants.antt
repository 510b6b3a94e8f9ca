-- What the loop of `new` keeps: a count for each dependency so far.
use Rattle.std.proofs.Common.{◌≡◌, length}
use Rattle.fd_closure.proofs.counting.Counters.new.Given as goal

abbrev pub invariant-loop-dep : goal.invariant-loop-dep
invariant-loop-dep l = length l.counts.items ≡ l.dep-index

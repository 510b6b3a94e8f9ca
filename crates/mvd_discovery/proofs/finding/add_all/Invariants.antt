-- What the loop of `add_all` keeps: the dependencies so far are added.
use Rattle.std.proofs.Common.{◌≡◌, ◌++◌, take}
use Rattle.mvd_discovery.proofs.finding.add_all.Given as goal

abbrev pub invariant-loop-dep : goal.invariant-loop-dep
invariant-loop-dep l = record {
  added : l.found.items ≡ l.initial.found.items ++ take l.dep-index l.more;
}

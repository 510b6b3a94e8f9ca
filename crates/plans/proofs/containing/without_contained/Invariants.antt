-- What the loop of `without_contained` keeps: `within` and `tried`; and by what it ends.
use Rattle.std.proofs.Common.{◌-◌, ◌≤◌, length}
use Rattle.plans.proofs.LoopLemmas.{IsTriedTo}
use Rattle.plans.proofs.containing.without_contained.Given as goal

abbrev pub invariant-loop-i : goal.invariant-loop-i
invariant-loop-i l = record {
  within : l.i ≤ length l.kept.items;
  tried : IsTriedTo l.fn.schemes.items l.kept.items l.i;
}

abbrev pub decreases-loop-i : goal.decreases-loop-i
decreases-loop-i l = length l.kept.items - l.i

-- What the loop of `pair_numbers` keeps: the pairs so far are numbered.
use Rattle.std.proofs.Common.{get_or}
use Rattle.row_groups.specs.Numberings.{AreNumbered}
use Rattle.row_groups.proofs.pair_leaders.pair_numbers.Given as goal

abbrev pub invariant-loop-k : goal.invariant-loop-k
invariant-loop-k l = record {
  numbered : AreNumbered (λ i. get_or l.pairs i (0, 0)) l.k l.set.keys l.numbers.items;
}

-- What the loop of `value_numbers` keeps: the values so far are numbered.
use Rattle.std.proofs.Common.{[], get_or}
use Rattle.row_groups.specs.Numberings.{AreNumbered}
use Rattle.row_groups.proofs.NumberingLemmas.{lent_bytes}
use Rattle.row_groups.proofs.leaders.value_numbers.Given as goal

abbrev pub invariant-loop-k : goal.invariant-loop-k
invariant-loop-k l = record {
  numbered : AreNumbered (λ i. get_or l.values i []) l.k (lent_bytes l.set.keys) l.numbers.items;
}

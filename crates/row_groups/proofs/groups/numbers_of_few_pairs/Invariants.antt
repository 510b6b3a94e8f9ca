-- What the loop of `numbers_of_few_pairs` keeps: what is kept of the pairs so far, and their numbers.
use Rattle.std.proofs.Common.{◌≡◌, ◌≤◌, length}
use Rattle.row_groups.specs.Numberings.{AreInOrder}
use Rattle.row_groups.proofs.PairLemmas.{Numbers}
use Rattle.row_groups.proofs.groups.numbers_of_few_pairs.Given as goal

abbrev pub invariant-loop-i : goal.invariant-loop-i
invariant-loop-i l = record {
  even : length l.other_numbers.items ≡ length l.others.keys;
  few : l.count ≤ l.i;
  one_each : length l.numbers.items ≡ l.i;
  so_far : AreInOrder l.first → Numbers l.first l.second l.i l.leads.items l.others.keys l.other_numbers.items l.count l.numbers.items;
}

-- What the loop of `first_rows` keeps: `so_far`.
use Rattle.row_groups.specs.Numberings.{AreInOrder}
use Rattle.row_groups.proofs.NumberingLemmas.{FirstsBefore}
use Rattle.row_groups.proofs.groups.first_rows.Given as goal

-- the first rows of the numbers so far
abbrev pub invariant-loop-i : goal.invariant-loop-i
invariant-loop-i l = record {
  so_far : AreInOrder l.numbers → FirstsBefore l.numbers l.i l.firsts.items;
}

-- What the loop of `broken_groups` keeps: the groups of the rows so far are marked.
use Rattle.std.proofs.Common.{◌≡◌, length}
use Rattle.row_measures.specs.ByClass.{AreOutside}
use Rattle.row_measures.proofs.by_class.broken_groups.Given as goal

abbrev pub invariant-loop-row : goal.invariant-loop-row
invariant-loop-row l = record {
  count : length l.broken.items ≡ length l.chosen;
  broken : AreOutside l.groups l.classes l.chosen l.row l.broken.items;
}

-- What the loop of `short_groups` keeps: the groups of the left parts so far are marked.
use Rattle.std.proofs.Common.{◌≡◌, length}
use Rattle.row_measures.specs.ByPart.{AreShort}
use Rattle.row_measures.proofs.by_part.short_groups.Given as goal

abbrev pub invariant-loop-left : goal.invariant-loop-left
invariant-loop-left l = record {
  count : length l.short.items ≡ length l.wanted;
  short : AreShort l.left_groups l.wanted l.present l.left l.short.items;
}

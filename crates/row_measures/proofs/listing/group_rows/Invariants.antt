-- What the loop of `group_rows` keeps: the rows so far.
use Rattle.std.proofs.Common.{◌≡◌, map, take}
use Rattle.row_measures.specs.ByPart.{group_row_by}
use Rattle.row_measures.proofs.listing.group_rows.Given as goal

abbrev pub invariant-loop-row : goal.invariant-loop-row
invariant-loop-row l = record { marked : l.marked.items ≡ map (group_row_by l.sorted) (take l.row-index l.row-items) }

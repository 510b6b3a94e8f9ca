-- What the loop of `class_rows` keeps: the rows so far.
use Rattle.std.proofs.Common.{◌≡◌, map, take}
use Rattle.row_measures.specs.ByClass.{row_by}
use Rattle.row_measures.proofs.listing.class_rows.Given as goal

abbrev pub invariant-loop-row : goal.invariant-loop-row
invariant-loop-row l = record { marked : l.marked.items ≡ map (row_by l.sorted) (take l.row-index l.row-items) }

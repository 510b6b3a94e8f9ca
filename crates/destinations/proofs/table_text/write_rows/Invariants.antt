-- What the loop of `write_rows` keeps: the open file has the lines of the rows so far.
use Rattle.std.proofs.Common.{take}
use Rattle.std.specs.Prelude.{Ok}
use Rattle.std.specs.List.{flat_map}
use Rattle.destinations.specs.Formats.{row_line}
use Rattle.destinations.specs.Writing.{AddsBytes}
use Rattle.named_tables.specs.Choices.{chosen_row}
use Rattle.destinations.proofs.table_text.write_rows.Given as goal

abbrev pub invariant-loop-row : goal.invariant-loop-row
invariant-loop-row g l =
    AddsBytes (flat_map (λ i. row_line l.format l.front l.table.nullable.items (chosen_row l.rows l.table i)) (take l.row-index l.table.chosen.items))
    (g.F.Folder.state l.fn.folder) (g.F.Folder.state l.folder) (Ok tt)

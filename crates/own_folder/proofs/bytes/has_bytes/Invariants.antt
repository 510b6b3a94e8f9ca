-- What the loop of `has_bytes` keeps: whether one of the rows so far has bytes.
use Rattle.std.proofs.Common.{◌≡◌, take}
use Rattle.std.specs.List.{list_any}
use Rattle.named_tables.specs.Choices.{chosen_row}
use Rattle.own_folder.specs.OwnFiles.{is_bytes}
use Rattle.own_folder.proofs.bytes.has_bytes.Given as goal

abbrev pub invariant-loop-row : goal.invariant-loop-row
invariant-loop-row l = l.any ≡ list_any (λ i. list_any is_bytes (chosen_row l.rows l.table i)) (take l.row-index l.table.chosen.items)

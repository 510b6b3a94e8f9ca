-- What the loop of `any_bytes` keeps: whether one of the tables so far has bytes.
use Rattle.std.proofs.Common.{◌≡◌, take}
use Rattle.std.specs.List.{list_any}
use Rattle.named_tables.specs.Tables.{chosen_value}
use Rattle.own_folder.specs.OwnFiles.{has_bytes}
use Rattle.own_folder.proofs.bytes.any_bytes.Given as goal

abbrev pub invariant-loop-table : goal.invariant-loop-table
invariant-loop-table l = l.any ≡ list_any (λ table. has_bytes (chosen_value l.rows table)) (take l.table-index l.tables)

-- What the loop of `write_insert_lines` keeps: the open file has the lines of the tables so far.
use Rattle.std.proofs.Common.{take}
use Rattle.std.specs.Prelude.{Ok}
use Rattle.std.specs.List.{flat_map}
use Rattle.destinations.specs.Formats.{table_text}
use Rattle.destinations.specs.Writing.{AddsBytes}
use Rattle.destinations.specs.declared.format.TableFormat.TheVariants.{Sql}
use Rattle.named_tables.specs.Tables.{chosen_value}
use Rattle.own_folder.proofs.script.write_insert_lines.Given as goal

abbrev pub invariant-loop-table : goal.invariant-loop-table
invariant-loop-table g l =
    AddsBytes (flat_map (λ table. table_text Sql (chosen_value l.rows table)) (take l.table-index l.tables)) (g.F.Folder.state l.fn.folder)
    (g.F.Folder.state l.folder) (Ok tt)

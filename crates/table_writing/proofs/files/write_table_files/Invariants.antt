-- What the loop of `write_table_files` keeps: the files of the tables so far are written.
use Rattle.std.proofs.Common.{take}
use Rattle.std.specs.Prelude.{Ok}
use Rattle.named_tables.specs.Tables.{chosen_values}
use Rattle.destinations.specs.Formats.{table_files}
use Rattle.destinations.specs.Writing.{FilesWritten}
use Rattle.table_writing.proofs.files.write_table_files.Given as goal

abbrev pub invariant-loop-table : goal.invariant-loop-table
invariant-loop-table g l =
    FilesWritten (table_files l.front l.format (chosen_values l.rows (take l.table-index l.tables))) (g.F.Folder.state l.fn.folder)
    (g.F.Folder.state l.folder) (Ok tt)

-- What is left to prove of `write_table_files`: that a round of its loop keeps the invariant, by `files_next`, and
-- where it stops, by `files_stop`.
use Rattle.std.proofs.Common.{◌+◌, List, drop, refl, subst, take}
use Rattle.std.specs.Prelude.{Ok}
use Rattle.desk_outside.specs.Files.{StoredFile}
use Rattle.named_tables.specs.Tables.{chosen_value, chosen_values}
use Rattle.destinations.specs.Formats.{table_file, table_files}
use Rattle.destinations.specs.Writing.{FilesWritten}
use Rattle.destinations.proofs.FileLemmas.{files_next, files_none, files_stop, table_files_more, table_files_split}
use Rattle.table_writing.proofs.files.write_table_files.Goals as goal

pub loop-table-init : goal.loop-table-init
loop-table-init g c = files_none (g.F.Folder.state c.args.folder.now)

pub loop-table-preserved : goal.loop-table-preserved
loop-table-preserved g c =
    subst (λ (files : List StoredFile). FilesWritten files (g.F.Folder.state c.args.folder.now) (g.F.Folder.state c.write_table_file.new.folder) (Ok tt))
    (table_files_more c.args.front.now c.args.format c.args.rows.now c.args.tables.now c.loop-table.table-index _ c.loop-table-test.true c.table-item.is)
    (files_next _ _ _ _ _ c.loop-table.invariant c.in-Ok.ensures.writes)

pub returns-in-Err : goal.returns-in-Err
returns-in-Err g c =
    let front = c.args.front.now in
    let format = c.args.format in
    let rows = c.args.rows.now in
    let tables = c.args.tables.now in
    let i = c.loop-table.table-index in
    record {
      written = files_stop (table_files front format (chosen_values rows tables)) (table_files front format (chosen_values rows (take i tables)))
          (table_files front format (chosen_values rows (drop (i + 1) tables))) (table_file front format (chosen_value rows c.table-item.result)) _ _ _ _
          (table_files_split front format rows tables i c.table-item.result c.loop-table-test.true c.table-item.is)
          c.loop-table.invariant c.in-Err.ensures.writes;
    }

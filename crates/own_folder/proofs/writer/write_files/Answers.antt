-- What is left to prove of `write_files`: how the CSV files and the script ended.
use Rattle.std.proofs.Common.{List, subst}
use Rattle.named_tables.specs.Tables.{chosen_values}
use Rattle.named_tables.specs.declared.table.ChosenTable.{ChosenTable}
use Rattle.destinations.specs.Formats.{table_files}
use Rattle.destinations.specs.Writing.{FilesWritten, WritesFile}
use Rattle.destinations.specs.declared.format.TableFormat.TheVariants.{Csv}
use Rattle.own_folder.specs.OwnFiles.{load_file}
use Rattle.own_folder.proofs.writer.write_files.Goals as goal

pub returns : goal.returns
returns g c =
    let state = g.F.Folder.state in
    let path = c.args.path.now in
    let rows = c.args.tables.now.rows in
    let middle = state c.write_table_files-csv.new.folder in
    record {
      written = record {
        middle = middle;
        of_csv = subst (λ (list : List ChosenTable). FilesWritten (table_files path Csv (chosen_values rows list)) (state c.args.folder.now) middle c.write_table_files-csv.result)
            c.deref.ensures.value c.write_table_files-csv.ensures.written;
        of_load = subst (λ (list : List ChosenTable). WritesFile (load_file path c.args.script.now (chosen_values rows list)) middle (state c.write_load_file-load.new.folder) c.write_load_file-load.result)
            c.deref-2.ensures.value c.write_load_file-load.ensures.writes;
      };
    }

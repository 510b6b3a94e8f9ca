-- The laws `files_of_tables_are_read_back`, clause by clause.
use Rattle.std.proofs.Common.{List, Ok, ℕ, sym, subst}
use Rattle.csv_rows.specs.Reading.{RowsOf, PartOf}
use Rattle.csv_text.specs.Rows.{rows_text}
use Rattle.csv_rows.proofs.PrintedRows.{printed_back}
use Rattle.table_laws.proofs.PartFiles.{part_back}
use Rattle.table_laws.proofs.MigratedFiles.{tables_back}
use Rattle.table_laws.proofs.files_of_tables_are_read_back.Goals as goal

pub returns : goal.returns
returns c = record {
  whole = λ s table named columns over typed within_limit.
      subst (λ (names : List (List ℕ)). RowsOf s (rows_text names table.rows) (Ok table.rows)) (sym columns)
      (printed_back s table.rows named over typed within_limit);
  part = λ s x table named not_empty columns over typed within_limit.
      subst (λ (names : List (List ℕ)). PartOf s (rows_text names table.rows) (Ok table.rows)) (sym columns)
      (part_back s x table.rows named not_empty over typed within_limit);
  migrated = λ s names plan rows named over typed within_limit not_empty. tables_back s names rows 0 plan named over typed within_limit not_empty;
}

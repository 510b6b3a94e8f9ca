-- What the loop of `take_on` keeps: `values`.
use Rattle.std.proofs.Common.{◌≡◌, take}
use Rattle.file_references.specs.Columns.{values_on}
use Rattle.row_store.specs.Rows.{row_at}
use Rattle.table_join.specs.Lent.{lent_values}
use Rattle.file_references.proofs.values.take_on.Given as goal

-- the values at the columns so far
abbrev pub invariant-loop-column : goal.invariant-loop-column
invariant-loop-column l = record {
  values : lent_values l.values.items ≡ values_on (take l.column-index l.columns) (row_at l.rows l.row);
}

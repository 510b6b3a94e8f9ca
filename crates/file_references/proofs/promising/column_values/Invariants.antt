-- What the loop of `column_values` keeps: `values`.
use Rattle.std.proofs.Common.{◌<◌, ℕ}
use Rattle.std.specs.Prelude.{Contains}
use Rattle.dep_model.specs.Tuples.{value_at}
use Rattle.row_store.specs.Rows.{row_at}
use Rattle.table_join.specs.Lent.{lent_values}
use Rattle.file_references.proofs.promising.column_values.Given as goal

-- the values of the rows so far
abbrev pub invariant-loop-row : goal.invariant-loop-row
invariant-loop-row l = record {
  values : (j : ℕ) → j < l.row → Contains (lent_values l.values.keys) (value_at (row_at l.rows j) l.column);
}

-- What the loop of `all_are` keeps: `within`, `some` and `none`.
use Rattle.std.proofs.Common.{◌≡◌, ◌<◌, ℕ, true, false}
use Rattle.std.specs.Prelude.{Contains}
use Rattle.file_references.specs.Columns.{misses_none, values_on}
use Rattle.row_store.specs.Rows.{row_at}
use Rattle.table_join.specs.Lent.{tuples_of}
use Rattle.file_references.proofs.sources.all_are.Given as goal

-- the rows so far
abbrev pub invariant-loop-row : goal.invariant-loop-row
invariant-loop-row l = record {
  within : (j : ℕ) → j < l.row → misses_none l.columns (row_at l.rows j) ≡ true
      → Contains (tuples_of l.values.keys) (values_on l.columns (row_at l.rows j));
  some : l.any_whole ≡ true → (j : ℕ) × (j < l.row) × (misses_none l.columns (row_at l.rows j) ≡ true);
  none : l.any_whole ≡ false → (j : ℕ) → j < l.row → misses_none l.columns (row_at l.rows j) ≡ true → ⊥;
}

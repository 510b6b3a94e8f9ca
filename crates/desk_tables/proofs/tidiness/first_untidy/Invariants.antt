-- What the loop of `first_untidy` keeps: `tidy`.
use Rattle.std.proofs.Common.{ℕ, ◌<◌}
use Rattle.attr_sets.specs.Sets.{attributes}
use Rattle.optional_tables.specs.LookUps.{empty_values}
use Rattle.row_store.specs.Rows.{row_at}
use Rattle.desk_tables.specs.Tidiness.{IsTidyRow}
use Rattle.desk_tables.proofs.tidiness.first_untidy.Given as goal

-- the rows so far are tidy
abbrev pub invariant-loop-row : goal.invariant-loop-row
invariant-loop-row l = record {
  tidy : (k : ℕ) → k < l.row → IsTidyRow (empty_values (attributes l.nullable)) l.table (row_at l.rows k);
}

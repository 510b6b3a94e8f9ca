-- What the loop of `table` keeps: the rows so far are there, and have a value for the one column.
use Rattle.std.proofs.Common.{◌≡◌, ◌<◌, All, length}
use Rattle.attr_sets.specs.Sets.{attributes}
use Rattle.dep_model.specs.Projections.{project_tuple}
use Rattle.row_store.specs.Rows.{row_at}
use Rattle.test_outside.proofs.three_tables.table.Given as goal

abbrev pub invariant-loop-row : goal.invariant-loop-row
invariant-loop-row l =
    All (λ i. (i < length l.rows) × (length (project_tuple (attributes l.scheme) (row_at l.rows i)) ≡ length l.columns.items)) l.there.items

-- What the loop of `project_row` keeps, in terms of `values_below` and `row_at`.
use Rattle.std.proofs.Common.{◌≡◌}
use Rattle.attr_sets.specs.Sets.{attributes}
use Rattle.row_store.specs.Rows.{row_at}
use Rattle.row_store.proofs.ProjectionLemmas.{values_below}
use Rattle.row_store.proofs.projecting.project_row.Given as goal

-- the values at the members before the attribute
abbrev pub invariant-loop-attribute : goal.invariant-loop-attribute
invariant-loop-attribute l = record { values : l.values ≡ values_below (attributes l.scheme) (row_at l.rows l.row) l.attribute }

-- What the loop of `rows_in_buckets` keeps: the rows so far are in their buckets.
use Rattle.dep_model.specs.Tuples.{value_at}
use Rattle.row_store.specs.Rows.{row_at}
use Rattle.row_groups.specs.Buckets.{AreBuckets}
use Rattle.row_groups.proofs.buckets.rows_in_buckets.Given as goal

abbrev pub invariant-loop-row : goal.invariant-loop-row
invariant-loop-row l = record {
  so_far : AreBuckets (λ i. value_at (row_at l.rows i) l.attribute) l.row l.buckets.items;
}

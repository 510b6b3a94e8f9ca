-- What the loop of `leaders_of` keeps: the rows of the buckets so far have their leaders.
use Rattle.std.proofs.Common.{◌≡◌, ◌<◌, ℕ, length}
use Rattle.dep_model.specs.Tuples.{value_at}
use Rattle.row_store.specs.Rows.{row_at}
use Rattle.row_groups.specs.Buckets.{IsLeader, bucket_of_bytes}
use Rattle.row_groups.specs.Numberings.{number_at}
use Rattle.row_groups.proofs.leaders.leaders_of.Given as goal

abbrev pub invariant-loop-place : goal.invariant-loop-place
invariant-loop-place l = record {
  count : length l.leaders.items ≡ length l.rows;
  led : (i : ℕ) → i < length l.rows → bucket_of_bytes (value_at (row_at l.rows i) l.attribute) < l.place
      → IsLeader (λ j. value_at (row_at l.rows j) l.attribute) i (number_at l.leaders.items i);
}

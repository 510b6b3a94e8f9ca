-- What the loop of `empty_buckets` keeps: so many empty buckets.
use Rattle.std.proofs.Common.{◌≡◌, [], length}
use Rattle.std.specs.Prelude.{All}
use Rattle.row_groups.proofs.buckets.empty_buckets.Given as goal

abbrev pub invariant-loop : goal.invariant-loop
invariant-loop l = record {
  count : length l.buckets.items ≡ l.counter;
  rows : All (λ b. b.rows.items ≡ []) l.buckets.items;
  values : All (λ b. b.values ≡ []) l.buckets.items;
}

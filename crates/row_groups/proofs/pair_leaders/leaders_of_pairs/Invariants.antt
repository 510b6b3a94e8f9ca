-- What the loop of `leaders_of_pairs` keeps: the positions of the buckets so far have their leaders.
use Rattle.std.proofs.Common.{◌≡◌, ◌<◌, ℕ, length}
use Rattle.row_groups.specs.Buckets.{IsLeader, bucket_of_pair, pair_at}
use Rattle.row_groups.specs.Numberings.{number_at}
use Rattle.row_groups.proofs.pair_leaders.leaders_of_pairs.Given as goal

abbrev pub invariant-loop-place : goal.invariant-loop-place
invariant-loop-place l = record {
  count : length l.leaders.items ≡ length l.first;
  led : (i : ℕ) → i < length l.first → bucket_of_pair (pair_at l.first l.second i) < l.place
      → IsLeader (pair_at l.first l.second) i (number_at l.leaders.items i);
}

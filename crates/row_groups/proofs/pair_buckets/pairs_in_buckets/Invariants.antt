-- What the loop of `pairs_in_buckets` keeps: the rows so far are in their buckets.
use Rattle.row_groups.specs.Buckets.{ArePairBuckets, pair_at}
use Rattle.row_groups.proofs.pair_buckets.pairs_in_buckets.Given as goal

abbrev pub invariant-loop-row : goal.invariant-loop-row
invariant-loop-row l = record {
  so_far : ArePairBuckets (pair_at l.first l.second) l.row l.buckets.items;
}

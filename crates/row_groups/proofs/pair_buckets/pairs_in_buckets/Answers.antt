-- What is left to prove of `pairs_in_buckets`: that its loop keeps the rows in their buckets, by `each_more`.
use Rattle.std.proofs.Common.{arith, ◌≡◌, ℕ, length, sym, subst, ◌∙◌}
use Rattle.std.proofs.lemmas.List.{length-set}
use Rattle.row_groups.specs.Buckets.{ArePairBuckets, bucket_of_pair, pair_at}
use Rattle.row_groups.specs.declared.pair_buckets.PairBucket.{PairBucket}
use Rattle.row_groups.proofs.BucketLemmas.{each_empty, each_more}
use Rattle.row_groups.proofs.pair_buckets.pairs_in_buckets.Goals as goal

pub loop-row-init : goal.loop-row-init
loop-row-init c = record {
  so_far = record {
    count = c.in_ok-buckets.ensures.count;
    each = each_empty (λ (b : PairBucket). b.rows.items) (λ (b : PairBucket). b.pairs.items) bucket_of_pair
        (pair_at c.args.first.now c.args.second.now) _
        c.in_ok-buckets.ensures.count c.in_ok-buckets.ensures.rows c.in_ok-buckets.ensures.pairs;
  };
}

pub loop-row-preserved : goal.loop-row-preserved
loop-row-preserved c =
    let old = c.loop-row.invariant.so_far in
    record {
      so_far = record {
        count = length-set _ _ _ ∙ old.count;
        each = each_more (λ (b : PairBucket). b.rows.items) (λ (b : PairBucket). b.pairs.items) bucket_of_pair
            (pair_at c.args.first.now c.args.second.now)
            c.loop-row.row c.bucket_of_pair.result _ c.index_mut.result.now _ old.count old.each c.bucket_of_pair.ensures.below
            (sym c.bucket_of_pair.ensures.bucket)
            c.index_mut.ensures.value c.in_ok-add_row.ensures.rows
            c.in_ok-add_row.ensures.pairs;
      };
    }

pub returns : goal.returns
returns c =
    let end : c.loop-row.row ≡ length c.args.first.now = (omega (arith, c.loop-row-test.false, c.loop-row.auto.row-end)) in
    record {
      buckets = subst (λ (n : ℕ). ArePairBuckets (pair_at c.args.first.now c.args.second.now) n c.loop-row.buckets.items)
          end c.loop-row.invariant.so_far;
    }

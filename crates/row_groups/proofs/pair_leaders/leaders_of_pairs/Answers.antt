-- What is left to prove of `leaders_of_pairs`: what each bucket has, and that the rows of the buckets so far are led.
use Rattle.std.proofs.Common.{arith, ◌≡◌, ◌<◌, ℕ, List, length, get_or, ◌∙◌}
use Rattle.row_groups.specs.Buckets.{IsBucket, bucket_of_pair, pair_at}
use Rattle.row_groups.specs.declared.pair_buckets.PairBucket.{PairBucket}
use Rattle.row_groups.specs.declared.buckets.TheConstants.{BUCKETS}
use Rattle.row_groups.proofs.BucketLemmas.{bucket_at, pair-low, even_values, few_rows, led_further, row_inside, rows_ascend, Each}
use Rattle.row_groups.proofs.pair_leaders.leaders_of_pairs.Goals as goal

-- the bucket at a place
bucket : (value : ℕ → ℕ × ℕ) (n place : ℕ) (buckets : List PairBucket) (found : PairBucket) → length buckets ≡ BUCKETS
    → Each (λ (b : PairBucket). b.rows.items) (λ (b : PairBucket). b.pairs.items) bucket_of_pair value n buckets → place < BUCKETS
    → found ≡ get_or buckets place found → IsBucket bucket_of_pair value n place found.rows.items found.pairs.items
bucket value = bucket_at (λ (b : PairBucket). b.rows.items) (λ (b : PairBucket). b.pairs.items) bucket_of_pair value

pub lead_pairs-requires-clause-even : goal.lead_pairs-requires-clause-even
lead_pairs-requires-clause-even c =
    let buckets = c.in_ok-buckets.ensures.buckets in
    even_values _ _ _ _ _ _ (bucket (pair_at c.args.first.now c.args.second.now) (length c.args.first.now) c.loop-place.place c.in_ok-buckets.buckets.items c.index.result.now buckets.count buckets.each (omega (arith, c.loop-place-test.true)) c.index.ensures)

pub lead_pairs-requires-clause-ascending : goal.lead_pairs-requires-clause-ascending
lead_pairs-requires-clause-ascending c =
    let buckets = c.in_ok-buckets.ensures.buckets in
    rows_ascend _ _ _ _ _ _ (bucket (pair_at c.args.first.now c.args.second.now) (length c.args.first.now) c.loop-place.place c.in_ok-buckets.buckets.items c.index.result.now buckets.count buckets.each (omega (arith, c.loop-place-test.true)) c.index.ensures)

pub lead_pairs-requires-clause-within : goal.lead_pairs-requires-clause-within
lead_pairs-requires-clause-within c = λ k d l.
    let buckets = c.in_ok-buckets.ensures.buckets in
    let is = bucket (pair_at c.args.first.now c.args.second.now) (length c.args.first.now) c.loop-place.place c.in_ok-buckets.buckets.items c.index.result.now buckets.count buckets.each (omega (arith, c.loop-place-test.true)) c.index.ensures in
    omega (arith, row_inside _ _ _ _ _ _ is k d l, c.loop-place.invariant.count)

pub lead_pairs-requires-clause-fits_u32 : goal.lead_pairs-requires-clause-fits_u32
lead_pairs-requires-clause-fits_u32 c =
    let buckets = c.in_ok-buckets.ensures.buckets in
    omega (arith, few_rows _ _ _ _ _ _ (bucket (pair_at c.args.first.now c.args.second.now) (length c.args.first.now) c.loop-place.place c.in_ok-buckets.buckets.items c.index.result.now buckets.count buckets.each (omega (arith, c.loop-place-test.true)) c.index.ensures), c.requires.fits_u32)

pub loop-place-preserved : goal.loop-place-preserved
loop-place-preserved c =
    let buckets = c.in_ok-buckets.ensures.buckets in
    let is = bucket (pair_at c.args.first.now c.args.second.now) (length c.args.first.now) c.loop-place.place c.in_ok-buckets.buckets.items c.index.result.now buckets.count buckets.each (omega (arith, c.loop-place-test.true)) c.index.ensures in
    record {
      count = c.in_ok-lead_pairs.ensures.count ∙ c.loop-place.invariant.count;
      led =
          led_further _ _ _ _ _ _ is _ _ c.loop-place.invariant.led (c.in_ok-lead_pairs.ensures.led _ _ _ is)
          c.in_ok-lead_pairs.ensures.others;
    }

pub returns-clause-leaders : goal.returns-clause-leaders
returns-clause-leaders c = record {
  each = λ i low. c.loop-place.invariant.led i (omega (arith, low, c.loop-place.invariant.count))
      (omega (arith, pair-low (pair_at c.args.first.now c.args.second.now i), c.loop-place-test.false, c.loop-place.auto.place-end));
}

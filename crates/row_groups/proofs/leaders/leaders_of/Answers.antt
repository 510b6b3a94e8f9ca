-- What is left to prove of `leaders_of`: what each bucket has, and that the rows of the buckets so far are led.
use Rattle.std.proofs.Common.{arith, ◌≡◌, ◌<◌, ℕ, List, length, get_or, ◌∙◌}
use Rattle.dep_model.specs.Tuples.{value_at}
use Rattle.row_store.specs.Rows.{row_at}
use Rattle.row_groups.specs.Buckets.{IsBucket, bucket_of_bytes}
use Rattle.row_groups.specs.declared.buckets.Bucket.{Bucket}
use Rattle.row_groups.specs.declared.buckets.TheConstants.{BUCKETS}
use Rattle.row_groups.proofs.BucketLemmas.{bucket_at, bytes-low, even_values, few_rows, led_further, row_inside, rows_ascend, Each}
use Rattle.row_groups.proofs.leaders.leaders_of.Goals as goal

-- the bucket at a place
bucket : (value : ℕ → List ℕ) (n place : ℕ) (buckets : List Bucket) (found : Bucket) → length buckets ≡ BUCKETS
    → Each (λ (b : Bucket). b.rows.items) (λ (b : Bucket). b.values) bucket_of_bytes value n buckets → place < BUCKETS
    → found ≡ get_or buckets place found → IsBucket bucket_of_bytes value n place found.rows.items found.values
bucket value = bucket_at (λ (b : Bucket). b.rows.items) (λ (b : Bucket). b.values) bucket_of_bytes value

pub lead_bucket-requires-clause-even : goal.lead_bucket-requires-clause-even
lead_bucket-requires-clause-even c =
    let buckets = c.in_ok-buckets.ensures.buckets in
    even_values _ _ _ _ _ _ (bucket (λ i. value_at (row_at c.args.rows.now i) c.args.attribute) (length c.args.rows.now) c.loop-place.place c.in_ok-buckets.buckets.items c.index.result.now buckets.count buckets.each (omega (arith, c.loop-place-test.true)) c.index.ensures)

pub lead_bucket-requires-clause-ascending : goal.lead_bucket-requires-clause-ascending
lead_bucket-requires-clause-ascending c =
    let buckets = c.in_ok-buckets.ensures.buckets in
    rows_ascend _ _ _ _ _ _ (bucket (λ i. value_at (row_at c.args.rows.now i) c.args.attribute) (length c.args.rows.now) c.loop-place.place c.in_ok-buckets.buckets.items c.index.result.now buckets.count buckets.each (omega (arith, c.loop-place-test.true)) c.index.ensures)

pub lead_bucket-requires-clause-within : goal.lead_bucket-requires-clause-within
lead_bucket-requires-clause-within c = λ k d l.
    let buckets = c.in_ok-buckets.ensures.buckets in
    let is = bucket (λ i. value_at (row_at c.args.rows.now i) c.args.attribute) (length c.args.rows.now) c.loop-place.place c.in_ok-buckets.buckets.items c.index.result.now buckets.count buckets.each (omega (arith, c.loop-place-test.true)) c.index.ensures in
    omega (arith, row_inside _ _ _ _ _ _ is k d l, c.loop-place.invariant.count)

pub lead_bucket-requires-clause-fits_u32 : goal.lead_bucket-requires-clause-fits_u32
lead_bucket-requires-clause-fits_u32 c =
    let buckets = c.in_ok-buckets.ensures.buckets in
    omega (arith, few_rows _ _ _ _ _ _ (bucket (λ i. value_at (row_at c.args.rows.now i) c.args.attribute) (length c.args.rows.now) c.loop-place.place c.in_ok-buckets.buckets.items c.index.result.now buckets.count buckets.each (omega (arith, c.loop-place-test.true)) c.index.ensures), c.requires.fits_u32)

pub loop-place-preserved : goal.loop-place-preserved
loop-place-preserved c =
    let buckets = c.in_ok-buckets.ensures.buckets in
    let is = bucket (λ i. value_at (row_at c.args.rows.now i) c.args.attribute) (length c.args.rows.now) c.loop-place.place c.in_ok-buckets.buckets.items c.index.result.now buckets.count buckets.each (omega (arith, c.loop-place-test.true)) c.index.ensures in
    record {
      count = c.in_ok-lead_bucket.ensures.count ∙ c.loop-place.invariant.count;
      led =
          led_further _ _ _ _ _ _ is _ _ c.loop-place.invariant.led (c.in_ok-lead_bucket.ensures.led _ _ _ is)
          c.in_ok-lead_bucket.ensures.others;
    }

pub returns-clause-leaders : goal.returns-clause-leaders
returns-clause-leaders c = record {
  each = λ i low. c.loop-place.invariant.led i (omega (arith, low, c.loop-place.invariant.count))
      (omega (arith, bytes-low (value_at (row_at c.args.rows.now i) c.args.attribute), c.loop-place-test.false, c.loop-place.auto.place-end));
}

-- What is left to prove of `rows_in_buckets`: that its loop keeps the rows in their buckets, by `each_more`.
use Rattle.std.proofs.Common.{arith, ◌≡◌, ◌++◌, ◌∷◌, [], ℕ, List, length, sym, ap, subst, ◌∙◌}
use Rattle.std.proofs.lemmas.List.{length-set}
use Rattle.dep_model.specs.Tuples.{value_at}
use Rattle.row_store.specs.Rows.{row_at}
use Rattle.row_groups.specs.Buckets.{AreBuckets, bucket_of_bytes}
use Rattle.row_groups.specs.declared.buckets.Bucket.{Bucket}
use Rattle.row_groups.proofs.BucketLemmas.{each_empty, each_more}
use Rattle.row_groups.proofs.buckets.rows_in_buckets.Goals as goal

pub loop-row-init : goal.loop-row-init
loop-row-init c = record {
  so_far = record {
    count = c.in_ok-buckets.ensures.count;
    each = each_empty (λ (b : Bucket). b.rows.items) (λ (b : Bucket). b.values) bucket_of_bytes
        (λ i. value_at (row_at c.args.rows.now i) c.args.attribute) _
        c.in_ok-buckets.ensures.count c.in_ok-buckets.ensures.rows c.in_ok-buckets.ensures.values;
  };
}

pub loop-row-preserved : goal.loop-row-preserved
loop-row-preserved c =
    let old = c.loop-row.invariant.so_far in
    record {
      so_far = record {
        count = length-set _ _ _ ∙ old.count;
        each = each_more (λ (b : Bucket). b.rows.items) (λ (b : Bucket). b.values) bucket_of_bytes
            (λ i. value_at (row_at c.args.rows.now i) c.args.attribute)
            c.loop-row.row c.bucket_of_bytes.result _ c.index_mut.result.now _ old.count old.each c.bucket_of_bytes.ensures.below
            (ap bucket_of_bytes (sym c.value-value.ensures.value) ∙ sym c.bucket_of_bytes.ensures.bucket)
            c.index_mut.ensures.value c.in_ok-add_row.ensures.rows
            (c.in_ok-add_row.ensures.values ∙ ap (λ (v : List ℕ). c.index_mut.result.now.values ++ v ∷ []) c.value-value.ensures.value);
      };
    }

pub returns : goal.returns
returns c =
    let end : c.loop-row.row ≡ length c.args.rows.now = (omega (arith, c.loop-row-test.false, c.len-row-end.ensures.count, c.loop-row.auto.row-end)) in
    record {
      buckets = subst (λ (n : ℕ). AreBuckets (λ i. value_at (row_at c.args.rows.now i) c.args.attribute) n c.loop-row.buckets.items)
          end c.loop-row.invariant.so_far;
    }

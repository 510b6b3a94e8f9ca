-- What is left to prove of `mixed`: that its loop keeps the invariant, by `mixed_next`, and its clause, by `mixed_end`.
use Rattle.std.proofs.Common.{arith, sym, ◌∙◌}
use Rattle.row_groups.proofs.BucketLemmas.{mixed_end, mixed_next}
use Rattle.row_groups.proofs.buckets.mixed.Goals as goal

pub loop-byte-preserved : goal.loop-byte-preserved
loop-byte-preserved c = record {
  left =
      sym (mixed_next c.loop-byte.sum c.loop-byte.byte-index c.args.bytes.now (omega (arith, c.loop-byte-test.true)))
      ∙ c.loop-byte.invariant.left;
}

pub returns : goal.returns
returns c = record {
  mixed =
      sym (mixed_end c.loop-byte.sum c.loop-byte.byte-index c.args.bytes.now (omega (arith, c.loop-byte-test.false)))
      ∙ c.loop-byte.invariant.left;
}

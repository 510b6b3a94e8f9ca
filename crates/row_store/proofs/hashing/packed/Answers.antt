-- What is left to prove of `packed`: that its loop keeps the invariant, by `packed_next`, and its clause, by `packed_end`.
use Rattle.std.proofs.Common.{arith, sym, ◌∙◌}
use Rattle.row_store.proofs.PackingLemmas.{packed_end, packed_next}
use Rattle.row_store.proofs.hashing.packed.Goals as goal

pub loop-byte-preserved : goal.loop-byte-preserved
loop-byte-preserved c = record {
  left =
      sym (packed_next c.loop-byte.sum c.loop-byte.byte-index c.args.bytes.now (omega (arith, c.loop-byte-test.true)))
      ∙ c.loop-byte.invariant.left;
}

pub returns : goal.returns
returns c = record {
  packed =
      sym (packed_end c.loop-byte.sum c.loop-byte.byte-index c.args.bytes.now (omega (arith, c.loop-byte-test.false)))
      ∙ c.loop-byte.invariant.left;
}

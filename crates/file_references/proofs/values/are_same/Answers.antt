-- What is left to prove of `are_same`: what it answers where all values are equal.
use Rattle.std.proofs.Common.{refl, length, arith}
use Rattle.row_store.specs.Rows.{row_at}
use Rattle.dep_model.proofs.TupleLemmas.{same_tuple-Contains}
use Rattle.file_references.proofs.values.are_same.Goals as goal

pub returns : goal.returns
returns c = record {
  same = (
    λ _. same_tuple-Contains (length (row_at c.args.rows.now c.args.one)) (row_at c.args.rows.now c.args.one) (row_at c.args.rows.now c.args.other) refl
        (omega (arith, c.if-width.false, c.width.ensures.width, c.width-width.ensures.width))
        (λ k low. c.loop-position.invariant.same k (omega (arith, low, c.loop-position-test.false, c.width-width.ensures.width))),
    λ _. refl,
  );
}

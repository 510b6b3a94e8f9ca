-- What is left to prove of `add_escaped`: that a round of its loop keeps the invariant, by
-- `escaped-next`, and its clause `text`, by `escaped-all`.
use Rattle.std.proofs.Common.{arith, refl}
use Rattle.destinations.proofs.SqlLemmas.{escaped-next, escaped-all}
use Rattle.destinations.proofs.sql_line.add_escaped.Goals as goal

pub loop-byte-preserved : goal.loop-byte-preserved
loop-byte-preserved c =
    escaped-next c.args.value.now c.loop-byte.byte-index _ _ _ _ _ _ c.loop-byte-test.true refl c.loop-byte.invariant c.in_ok-add_byte.ensures.more

pub returns : goal.returns
returns c = record {
  text = escaped-all c.args.value.now c.loop-byte.byte-index _ _ _ (omega arith) c.loop-byte.invariant;
}

-- What is left to prove of `distinct_values`: that a round of its loop keeps the invariant.
use Rattle.file_references.proofs.UnmatchedLemmas.{values_more_at}
use Rattle.file_references.proofs.matching.distinct_values.Goals as goal

pub loop-row-preserved : goal.loop-row-preserved
loop-row-preserved c = record {
  values = values_more_at c.args.rows.now c.args.columns.now c.args.positions.now c.loop-row.row-index _ c.loop-row.values.keys c.insert.new.self.keys
      c.take_on.new.values c.loop-row.invariant.values c.loop-row-test.true c.in_ok-take_on.ensures.values c.in_ok-insert.ensures.keys;
}

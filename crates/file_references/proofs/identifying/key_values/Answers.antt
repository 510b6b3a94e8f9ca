-- What is left to prove of `key_values`: what it answers once all rows were added, by `all_hold`.
use Rattle.std.proofs.Common.{arith}
use Rattle.table_join.specs.Lent.{tuples_of}
use Rattle.file_references.proofs.KeyLemmas.{all_hold}
use Rattle.file_references.proofs.identifying.key_values.Goals as goal

pub returns : goal.returns
returns c = record {
  key = all_hold c.args.rows.now c.args.columns.now c.loop-row.row (tuples_of c.loop-row.values.keys) c.loop-row.firsts.items
      (omega (arith, c.loop-row-test.false, c.loop-row.auto.row-end, c.len-row-end.ensures.count)) c.loop-row.invariant.key;
}

-- What is left to prove of `are_there`: what it answers at a missing value, by `missing_here`.
use Rattle.file_references.proofs.ValueLemmas.{missing_here}
use Rattle.file_references.proofs.values.are_there.Goals as goal

pub returns-then-is_empty : goal.returns-then-is_empty
returns-then-is_empty c = record {
  there = missing_here c.args.values.now c.loop-value.value-index _ c.is_empty.result c.loop-value-test.true c.is_empty.ensures c.if-is_empty.true;
}

-- What is left to prove of `write_all`: that a round of its loop keeps the invariant, by
-- `with_bytes-take`.
use Rattle.std.proofs.Common.{arith, rules}
use Rattle.desk_outside.proofs.FolderFacts.{with_bytes-take}
use Rattle.desk_outside.proofs.transfer.write_all.Goals as goal

pub loop-written-preserved : goal.loop-written-preserved
loop-written-preserved g c = record {
  is_open = search rules;
  same = search rules;
  fine = search rules;
  within = omega (arith, c.in_ok-written.ensures.bound);
  taken = with_bytes-take _ _ _ _ _ _ c.loop-written.invariant.taken c.in_ok-written.ensures.bytes;
}

-- What is left to prove of `send`: that a round of its loop keeps the invariant, by
-- `append_known-take`.
use Rattle.std.proofs.Common.{arith, rules}
use Rattle.desk_outside.proofs.ListFacts.{append_known-take}
use Rattle.desk_outside.proofs.transfer.send.Goals as goal

pub loop-sent-preserved : goal.loop-sent-preserved
loop-sent-preserved g c = record {
  fine = search rules;
  within = omega (arith, c.in_ok-sent.ensures.bound);
  taken = append_known-take _ _ _ _ _ _ c.loop-sent.invariant.taken c.in_ok-sent.ensures.bytes;
}

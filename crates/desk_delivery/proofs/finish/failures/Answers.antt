-- What is left to prove of `failures`: its clause `lines` and that a round of its loop keeps the
-- invariant, by `failures_next` and `failures_all`.
use Rattle.std.proofs.Common.{arith}
use Rattle.desk_delivery.proofs.ReportLemmas.{failures_next, failures_all}
use Rattle.desk_delivery.proofs.finish.failures.Goals as goal

pub loop-i-preserved : goal.loop-i-preserved
loop-i-preserved c = record {
  lines = failures_next c.args.ends.now _ _ _ _ c.loop-i-test.true c.loop-i.invariant.lines c.put_end.ensures.added;
  short = omega (arith, c.put_end.ensures.at_most_a_line, c.loop-i.invariant.short);
  has_room = omega (arith, c.put_end.ensures.keeps, c.loop-i.invariant.has_room);
}

pub returns : goal.returns
returns c = record { lines = failures_all c.args.ends.now _ _ (omega arith) c.loop-i.invariant.lines }

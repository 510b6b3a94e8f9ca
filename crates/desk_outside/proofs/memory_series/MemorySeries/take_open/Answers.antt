-- What is left to prove of `take_open`: its clauses, by `PlannedFacts`.
use Rattle.std.proofs.Common.{refl}
use Rattle.desk_outside.proofs.PlannedFacts.{call_and_fault, cause_of_fault, no_cause, failed_as_planned, fine_as_planned}
use Rattle.desk_outside.proofs.memory_series.MemorySeries.take_open.Goals as goal

pub returns-then-next_fails : goal.returns-then-next_fails
returns-then-next_fails g c = record {
  finished = refl;
  closed = c.take-opened.ensures.after;
  taken = tt;
  only = refl;
  failed = failed_as_planned c.next_fails.result c.next_fails.ensures.fails c.if-next_fails.true;
  counts = call_and_fault _ _ _ c.next_fails.ensures.counts c.count_fault.ensures.counts;
  cause = cause_of_fault _ _ _ c.next_fails.ensures.counts c.count_fault.ensures.counts;
}

pub returns : goal.returns
returns g c = record {
  finished = refl;
  closed = c.take-opened.ensures.after;
  taken = c.take-opened.ensures.value;
  only = tt;
  failed = fine_as_planned c.next_fails.result c.take-opened.result c.next_fails.ensures.fails c.if-next_fails.false;
  counts = c.next_fails.ensures.counts;
  cause = no_cause _ _ c.take-opened.result c.next_fails.ensures.counts;
}

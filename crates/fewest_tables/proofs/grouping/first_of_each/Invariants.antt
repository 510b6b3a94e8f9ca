-- What the loop of `first_of_each` keeps, in terms of `firsts_after`.
use Rattle.fewest_tables.proofs.LoopLemmas.{AreFirstsTo}
use Rattle.fewest_tables.proofs.grouping.first_of_each.Given as goal

abbrev pub invariant-loop-one : goal.invariant-loop-one
invariant-loop-one l = AreFirstsTo l.known l.firsts.items l.one-index

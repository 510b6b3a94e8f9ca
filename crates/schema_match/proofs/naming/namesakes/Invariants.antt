-- What the loop of `namesakes` keeps: `AreNamesakesTo`.
use Rattle.schema_match.proofs.CarryLemmas.{AreNamesakesTo}
use Rattle.schema_match.proofs.naming.namesakes.Given as goal

abbrev pub invariant-loop-a : goal.invariant-loop-a
invariant-loop-a l = AreNamesakesTo l.schema l.other l.a l.attributes.items

-- What the loop of `differences` keeps: `AreDifferencesTo`.
use Rattle.schema_match.proofs.DifferenceLemmas.{AreDifferencesTo}
use Rattle.schema_match.proofs.comparing.differences.Given as goal

abbrev pub invariant-loop-k : goal.invariant-loop-k
invariant-loop-k l = AreDifferencesTo l.schema l.other l.k l.numbers.items

-- The loop of `is_said` keeps nothing.
use Rattle.short_derivations.proofs.checking.is_said.Given as goal

abbrev pub invariant-loop-link : goal.invariant-loop-link
invariant-loop-link l = Unit {0}

-- The loop of `is_used` keeps nothing.
use Rattle.short_derivations.proofs.checking.is_used.Given as goal

abbrev pub invariant-loop-at : goal.invariant-loop-at
invariant-loop-at l = Unit {0}

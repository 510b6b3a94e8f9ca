-- The loop of `is_held` keeps nothing.
use Rattle.candidate_branches.proofs.evidence.is_held.Given as goal

abbrev pub invariant-loop-one : goal.invariant-loop-one
invariant-loop-one l = Unit {0}

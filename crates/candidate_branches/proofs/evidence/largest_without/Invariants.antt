-- What the loop of `largest_without` keeps: the largest of the evidence so far.
use Rattle.candidate_branches.proofs.LargestLemmas.{AreLargestUpTo}
use Rattle.candidate_branches.proofs.evidence.largest_without.Given as goal

abbrev pub invariant-loop-one : goal.invariant-loop-one
invariant-loop-one l = AreLargestUpTo l.right l.evidence l.one-index l.largest.items

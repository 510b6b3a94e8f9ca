-- By what `first_exceeded` ends: the right sides become fewer.
use Rattle.near_rules.proofs.finding.+first_exceeded.Given as goal

abbrev pub decreases-first_exceeded : goal.decreases-first_exceeded
decreases-first_exceeded l = l.right

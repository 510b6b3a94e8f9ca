-- By what `is_any_within` ends: the number of sets.
use Rattle.std.proofs.Common.{length}
use Rattle.candidate_sets.proofs.asking.+is_any_within.Given as goal

abbrev pub decreases-is_any_within : goal.decreases-is_any_within
decreases-is_any_within l = length l.sets.now

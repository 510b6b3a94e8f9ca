-- What the loop of `sets_with` keeps.
use Rattle.std.proofs.Common.{◌≡◌, filter, take}
use Rattle.candidate_branches.specs.Branches.{has_column}
use Rattle.candidate_branches.proofs.branch.sets_with.Given as goal

abbrev pub invariant-loop-set : goal.invariant-loop-set
invariant-loop-set l = l.having.items ≡ filter (has_column l.column) (take l.set-index l.sets)

-- What the loop of `add_sets_without` keeps.
use Rattle.std.proofs.Common.{◌≡◌, ◌++◌, filter, take}
use Rattle.candidate_branches.specs.Branches.{lacks_column}
use Rattle.candidate_branches.proofs.branch.add_sets_without.Given as goal

abbrev pub invariant-loop-set : goal.invariant-loop-set
invariant-loop-set l = l.lacking.items ≡ l.initial.lacking.items ++ filter (lacks_column l.column) (take l.set-index l.sets)

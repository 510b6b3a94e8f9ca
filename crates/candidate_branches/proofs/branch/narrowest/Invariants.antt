-- What the loop of `narrowest` keeps: the best is listed.
use Rattle.std.specs.Prelude.{Contains}
use Rattle.candidate_branches.proofs.branch.narrowest.Given as goal

abbrev pub invariant-loop-i : goal.invariant-loop-i
invariant-loop-i l = Contains l.held l.best

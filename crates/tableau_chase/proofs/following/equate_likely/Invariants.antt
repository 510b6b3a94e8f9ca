-- What the loop of `equate_likely` keeps: `FollowsBy`.
use Rattle.attr_sets.specs.Sets.{attributes}
use Rattle.dep_model.specs.Dependencies.{fd}
use Rattle.tableau_chase.specs.Equating.{FollowsBy}
use Rattle.tableau_chase.proofs.following.equate_likely.Given as goal

abbrev pub invariant-loop-i : goal.invariant-loop-i
invariant-loop-i l = FollowsBy (fd (attributes l.lhs) (attributes l.rhs)) l.initial.rows l.rows

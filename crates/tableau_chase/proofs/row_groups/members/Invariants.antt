-- What the loop of `members` keeps, in terms of `members_below`.
use Rattle.std.proofs.Common.{◌≡◌}
use Rattle.attr_sets.specs.Sets.{attributes}
use Rattle.dep_model.specs.Projections.{members_below}
use Rattle.tableau_chase.proofs.row_groups.members.Given as goal

abbrev pub invariant-loop-a : goal.invariant-loop-a
invariant-loop-a l = l.members.items ≡ members_below l.a (attributes l.set)

-- What the loop of `followers` keeps: `AreFollowersUpTo`.
use Rattle.tableau_chase.proofs.GroupLemmas.{AreFollowersUpTo}
use Rattle.tableau_chase.proofs.row_groups.followers.Given as goal

abbrev pub invariant-loop-j : goal.invariant-loop-j
invariant-loop-j l = AreFollowersUpTo l.leaders l.seconds l.j l.groups.items

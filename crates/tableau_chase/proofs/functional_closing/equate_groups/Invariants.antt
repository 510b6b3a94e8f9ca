-- What the loop of `equate_groups` keeps: `AreGroupedUpTo`.
use Rattle.attr_sets.specs.Sets.{attributes}
use Rattle.tableau_chase.proofs.EquatingLemmas.{AreGroupedUpTo}
use Rattle.tableau_chase.proofs.functional_closing.equate_groups.Given as goal

abbrev pub invariant-loop-i : goal.invariant-loop-i
invariant-loop-i l = AreGroupedUpTo (attributes l.fn.lhs) (attributes l.rhs) l.leaders.items l.i l.initial.rows l.rows l.changed

-- What the loop of `core_of` keeps, in terms of `width_of`, `theory_of` and `IsOnTheWay`; and by
-- what it ends.
use Rattle.attr_sets.specs.declared.set.TheConstants.{MOST_ATTRIBUTES}
use Rattle.attr_sets.specs.Attributes.{count_below}
use Rattle.attr_sets.specs.Sets.{attributes}
use Rattle.dep_model.specs.Theories.{width_of, theory_of}
use Rattle.wide_bcnf.proofs.CoreLemmas.{IsOnTheWay}
use Rattle.wide_bcnf.proofs.splitting.core_of.Given as goal

abbrev pub invariant-loop-next : goal.invariant-loop-next
invariant-loop-next l =
    IsOnTheWay (width_of l.fn.theory) (theory_of l.fn.theory) (attributes l.fn.scheme)
    (attributes l.rest) l.last.first l.last.second

abbrev pub decreases-loop-next : goal.decreases-loop-next
decreases-loop-next l = count_below (attributes l.rest) MOST_ATTRIBUTES

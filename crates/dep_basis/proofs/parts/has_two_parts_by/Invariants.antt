-- What the loop of `has_two_parts_by` keeps: `can` and `beyond`; and by what it ends.
use Rattle.attr_sets.specs.Attributes.{IsSubset, count_below}
use Rattle.attr_sets.specs.Sets.{attributes}
use Rattle.attr_sets.specs.declared.set.TheConstants.{MOST_ATTRIBUTES}
use Rattle.dep_basis.specs.Pieces.{CanRefine}
use Rattle.dep_basis.proofs.parts.has_two_parts_by.Given as goal

abbrev pub invariant-loop-rest : goal.invariant-loop-rest
invariant-loop-rest l = record {
  can : CanRefine l.width l.deps (attributes l.fn.lhs) (attributes l.piece);
  beyond : IsSubset (attributes l.beyond) (attributes l.piece);
}

abbrev pub decreases-loop-rest : goal.decreases-loop-rest
decreases-loop-rest l = count_below (attributes l.piece) MOST_ATTRIBUTES

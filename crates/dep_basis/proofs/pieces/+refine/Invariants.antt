-- What grows less at each call of `refine`.
use Rattle.attr_sets.specs.Attributes.{count_below}
use Rattle.attr_sets.specs.Sets.{attributes}
use Rattle.attr_sets.specs.declared.set.TheConstants.{MOST_ATTRIBUTES}
use Rattle.dep_basis.proofs.pieces.+refine.Given as goal

abbrev pub decreases-refine : goal.decreases-refine
decreases-refine l = count_below (attributes l.piece) MOST_ATTRIBUTES

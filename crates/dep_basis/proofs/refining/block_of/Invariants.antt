-- What the loop of `block_of` keeps: `IsCandidate`; and by what it ends.
use Rattle.attr_sets.specs.Attributes.{count_below}
use Rattle.attr_sets.specs.Sets.{attributes}
use Rattle.attr_sets.specs.declared.set.TheConstants.{MOST_ATTRIBUTES}
use Rattle.dep_model.specs.Deps.{dependencies_of}
use Rattle.dep_basis.specs.Refining.{IsCandidate}
use Rattle.dep_basis.proofs.refining.block_of.Given as goal

abbrev pub invariant-loop-rest : goal.invariant-loop-rest
invariant-loop-rest l = IsCandidate l.fn.width (dependencies_of l.deps) (attributes l.fn.lhs) l.fn.attribute (attributes l.part)

abbrev pub decreases-loop-rest : goal.decreases-loop-rest
decreases-loop-rest l = count_below (attributes l.part) MOST_ATTRIBUTES

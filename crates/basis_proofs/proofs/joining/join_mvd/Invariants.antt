-- What the loop of `join_mvd` keeps: `left` and `proves`; and by what it ends.
use Rattle.attr_sets.specs.Attributes.{count_below, difference}
use Rattle.attr_sets.specs.Sets.{attributes}
use Rattle.attr_sets.specs.declared.set.TheConstants.{MOST_ATTRIBUTES}
use Rattle.dep_model.specs.Dependencies.{mvd}
use Rattle.derivation.specs.Derivs.{tree_of}
use Rattle.derivation.specs.Conclusions.{Proves}
use Rattle.basis_proofs.specs.JoinedProofs.{IsLeft}
use Rattle.basis_proofs.proofs.joining.join_mvd.Given as goal

abbrev pub invariant-loop-first : goal.invariant-loop-first
invariant-loop-first l = record {
  left : IsLeft (attributes l.lhs) (attributes l.fn.rhs) (attributes l.left) (tree_of l.joined.value);
  proves : Proves l.theory (tree_of l.joined.value) (mvd (attributes l.lhs) (difference (attributes l.fn.rhs) (attributes l.left)));
}

abbrev pub decreases-loop-first : goal.decreases-loop-first
decreases-loop-first l = count_below (attributes l.left) MOST_ATTRIBUTES

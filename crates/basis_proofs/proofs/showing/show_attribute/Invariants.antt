-- What the loop of `show_attribute` keeps: `same_lhs` and `proof`; and by what it ends.
use Rattle.std.proofs.Common.{◌≡◌}
use Rattle.attr_sets.specs.Attributes.{count_below}
use Rattle.attr_sets.specs.Sets.{attributes}
use Rattle.attr_sets.specs.declared.set.TheConstants.{MOST_ATTRIBUTES}
use Rattle.derivation.specs.Derivs.{tree_of}
use Rattle.basis_proofs.specs.CutProofs.{IsPartProof}
use Rattle.basis_proofs.proofs.showing.show_attribute.Given as goal

abbrev pub invariant-loop-k : goal.invariant-loop-k
invariant-loop-k l = record {
  same_lhs : l.from.lhs ≡ l.fn.lhs;
  proof : IsPartProof l.theory (attributes l.fn.lhs) l.attribute (attributes l.from.part) (tree_of l.from.deriv.value);
}

abbrev pub decreases-loop-k : goal.decreases-loop-k
decreases-loop-k l = count_below (attributes l.from.part) MOST_ATTRIBUTES

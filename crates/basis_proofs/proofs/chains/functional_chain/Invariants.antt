-- What the loop of `functional_chain` keeps, in terms of `tree_of` and `Reaches`; and by what it
-- ends.
use Rattle.std.proofs.Common.{ℕ, ◌-◌}
use Rattle.attr_sets.specs.Attributes.{count_below}
use Rattle.attr_sets.specs.Sets.{attributes}
use Rattle.attr_sets.specs.declared.set.TheConstants.{MOST_ATTRIBUTES}
use Rattle.derivation.specs.Derivs.{tree_of}
use Rattle.derivation.specs.Chains.{Reaches}
use Rattle.basis_proofs.proofs.chains.functional_chain.Given as goal

abbrev pub invariant-loop-closed : goal.invariant-loop-closed
invariant-loop-closed l = (m : ℕ) × Reaches l.theory (attributes l.fn.lhs) (attributes l.rhs) m (record { closed = attributes l.closed; tree = tree_of l.chain.value })

abbrev pub decreases-loop-closed : goal.decreases-loop-closed
decreases-loop-closed l = MOST_ATTRIBUTES - count_below (attributes l.closed) MOST_ATTRIBUTES

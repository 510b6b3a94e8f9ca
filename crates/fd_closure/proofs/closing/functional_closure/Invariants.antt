-- What the loop of `functional_closure` keeps: `grows`, `within` and `implied`; and by what it ends.
use Rattle.std.proofs.Common.{ℕ, ◌-◌}
use Rattle.std.specs.Prelude.{All}
use Rattle.attr_sets.specs.Attributes.{Attributes, IsSubset, count_below}
use Rattle.attr_sets.specs.Sets.{attributes}
use Rattle.attr_sets.specs.declared.set.TheConstants.{MOST_ATTRIBUTES}
use Rattle.dep_model.specs.Dependencies.{fd, functional_part}
use Rattle.dep_model.specs.Deps.{dependencies_of, IsDepWithin}
use Rattle.dep_model.specs.Implication.{Implies}
use Rattle.fd_closure.proofs.closing.functional_closure.Given as goal

abbrev pub invariant-loop-more : goal.invariant-loop-more
invariant-loop-more l = record {
  grows : IsSubset (attributes l.initial.closed) (attributes l.closed);
  within : (universe : Attributes) → All (IsDepWithin universe) l.deps → IsSubset (attributes l.initial.closed) universe → IsSubset (attributes l.closed) universe;
  implied : (n : ℕ) → Implies n (functional_part (dependencies_of l.deps)) (fd (attributes l.initial.closed) (attributes l.closed));
}

abbrev pub decreases-loop-more : goal.decreases-loop-more
decreases-loop-more l = MOST_ATTRIBUTES - count_below (attributes l.closed) MOST_ATTRIBUTES

-- What the loop of `unless_after` keeps: a derivation that is no longer than any of those gone through.
use Rattle.std.proofs.Common.{ℕ, ◌<◌}
use Rattle.attr_sets.specs.Sets.{attributes}
use Rattle.dep_model.specs.Deps.{dependency_of}
use Rattle.derivation.specs.Derivs.{tree_of}
use Rattle.short_proofs.specs.Short.{start, IsJoinedBy, IsNoLongerThan}
use Rattle.short_proofs.specs.Shapes.{IsSameOrShorter}
use Rattle.short_proofs.proofs.joints.unless_after.Given as goal

abbrev pub invariant-loop-number : goal.invariant-loop-number
invariant-loop-number l = record {
  kept : IsSameOrShorter l.theory (dependency_of l.goal) (tree_of l.fn.deriv.value) (tree_of l.best.value);
  short : (k : ℕ) → k < l.number → IsNoLongerThan l.theory (dependency_of l.goal)
      (IsJoinedBy l.theory (dependency_of l.goal) (start l.first.number l.first.replicated l.first.complemented) (attributes l.middle) k) (tree_of l.best.value);
}

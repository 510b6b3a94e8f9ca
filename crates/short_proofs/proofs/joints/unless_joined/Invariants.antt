-- What the loop of `unless_joined` keeps: a derivation that is no longer than any of those gone through.
use Rattle.std.proofs.Common.{ℕ, ◌<◌, Bool}
use Rattle.dep_model.specs.Deps.{dependency_of}
use Rattle.derivation.specs.Trees.{Tree}
use Rattle.derivation.specs.Derivs.{tree_of}
use Rattle.short_proofs.specs.Short.{start, IsJoinedFrom, IsNoLongerThan}
use Rattle.short_proofs.specs.Shapes.{IsSameOrShorter}
use Rattle.short_proofs.proofs.joints.unless_joined.Given as goal

abbrev pub invariant-loop-number : goal.invariant-loop-number
invariant-loop-number l = record {
  kept : IsSameOrShorter l.theory (dependency_of l.goal) (tree_of l.fn.deriv.value) (tree_of l.best.value);
  short : (k : ℕ) → k < l.number → IsNoLongerThan l.theory (dependency_of l.goal)
      (λ (u : Tree). (r c : Bool) × IsJoinedFrom l.theory (dependency_of l.goal) (start k r c) u) (tree_of l.best.value);
}

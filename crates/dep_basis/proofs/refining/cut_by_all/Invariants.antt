-- What the loop of `cut_by_all` keeps: `smaller`, `candidate` and `whole`.
use Rattle.std.proofs.Common.{ℕ, take}
use Rattle.std.specs.Prelude.{All}
use Rattle.attr_sets.specs.Attributes.{Attributes, below, IsSubset}
use Rattle.attr_sets.specs.Sets.{attributes}
use Rattle.dep_model.specs.Deps.{dependency_of, dependencies_of, IsDepWithin}
use Rattle.dep_basis.specs.Refining.{IsCandidate, LeavesWhole}
use Rattle.dep_basis.proofs.refining.cut_by_all.Given as goal

abbrev pub invariant-loop-dep : goal.invariant-loop-dep
invariant-loop-dep l = record {
  smaller : IsSubset (attributes l.rest) (attributes l.initial.rest);
  candidate : (n : ℕ) (x : Attributes) → All (IsDepWithin (below n)) l.deps → IsSubset x (below n)
      → IsCandidate n (dependencies_of l.deps) x l.attribute (attributes l.initial.rest)
      → IsCandidate n (dependencies_of l.deps) x l.attribute (attributes l.rest);
  whole : All (λ d. LeavesWhole (attributes l.initial.rest) (attributes l.rest) (dependency_of d)) (take l.dep-index l.deps);
}

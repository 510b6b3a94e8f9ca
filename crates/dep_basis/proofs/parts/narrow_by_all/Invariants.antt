-- What the loop of `narrow_by_all` keeps: `smaller`, `beyond`, `refined` and `whole`.
use Rattle.std.proofs.Common.{ℕ, take}
use Rattle.std.specs.Prelude.{All}
use Rattle.attr_sets.specs.Attributes.{Attributes, IsSubset}
use Rattle.attr_sets.specs.Sets.{attributes}
use Rattle.dep_model.specs.Deps.{dependency_of}
use Rattle.dep_basis.specs.Refining.{LeavesWhole}
use Rattle.dep_basis.specs.Pieces.{CanRefine}
use Rattle.dep_basis.proofs.parts.narrow_by_all.Given as goal

abbrev pub invariant-loop-dep : goal.invariant-loop-dep
invariant-loop-dep l = record {
  smaller : IsSubset (attributes l.rest) (attributes l.fn.piece);
  beyond : IsSubset (attributes l.beyond) (attributes l.rest);
  refined : (n : ℕ) (x : Attributes) → CanRefine n l.deps x (attributes l.fn.piece) → CanRefine n l.deps x (attributes l.rest);
  whole : All (λ d. LeavesWhole (attributes l.fn.piece) (attributes l.rest) (dependency_of d)) (take l.dep-index l.deps);
}

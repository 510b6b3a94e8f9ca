-- What the loop of `any_fits` keeps: none of those gone through fits.
use Rattle.std.proofs.Common.{take}
use Rattle.std.specs.Prelude.{All}
use Rattle.attr_sets.specs.Sets.{attributes}
use Rattle.dep_model.specs.Deps.{dependency_of}
use Rattle.short_proofs.specs.Short.{FitBeyond}
use Rattle.short_proofs.proofs.fitting.any_fits.Given as goal

abbrev pub invariant-loop-dep : goal.invariant-loop-dep
invariant-loop-dep l = All (λ d. FitBeyond (attributes l.rest) (dependency_of l.goal) (attributes l.middle) (dependency_of d) → ⊥) (take l.dep-index l.deps)

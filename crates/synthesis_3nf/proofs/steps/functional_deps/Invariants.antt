-- What the loop of `functional_deps` keeps: `part` and `within`.
use Rattle.std.proofs.Common.{◌≡◌, take}
use Rattle.std.specs.Prelude.{All}
use Rattle.attr_sets.specs.Attributes.{Attributes}
use Rattle.dep_model.specs.Dependencies.{functional_part}
use Rattle.dep_model.specs.Deps.{dependencies_of, IsDepWithin}
use Rattle.synthesis_3nf.proofs.steps.functional_deps.Given as goal

abbrev pub invariant-loop-dep : goal.invariant-loop-dep
invariant-loop-dep l = record {
  part : dependencies_of l.part.items ≡ functional_part (dependencies_of (take l.dep-index l.deps));
  within : (universe : Attributes) → All (IsDepWithin universe) l.deps → All (IsDepWithin universe) l.part.items;
}

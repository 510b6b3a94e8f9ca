-- What the loop of `merged_scheme` keeps, in terms of `merged_scheme`.
use Rattle.std.proofs.Common.{◌≡◌, take}
use Rattle.attr_sets.specs.Sets.{attributes}
use Rattle.dep_model.specs.Deps.{dependencies_of}
use Rattle.dep_model.specs.Plans.{schemes_of}
use Rattle.fewest_tables.specs.MergedPlans.{merged_scheme}
use Rattle.fewest_tables.proofs.merging.merged_scheme.Given as goal

abbrev pub invariant-loop-left : goal.invariant-loop-left
invariant-loop-left l = attributes l.scheme ≡ merged_scheme (dependencies_of l.deps) (schemes_of (take l.left-index l.group))

-- What the loop of `merged_schemes` keeps, in terms of `merged_scheme`.
use Rattle.std.proofs.Common.{◌≡◌, map, take}
use Rattle.dep_model.specs.Deps.{dependencies_of}
use Rattle.dep_model.specs.Plans.{schemes_of}
use Rattle.fewest_tables.specs.FewestSteps.{group_with}
use Rattle.fewest_tables.specs.MergedPlans.{merged_scheme}
use Rattle.fewest_tables.proofs.merging.merged_schemes.Given as goal

abbrev pub invariant-loop-first : goal.invariant-loop-first
invariant-loop-first l =
    schemes_of l.schemes.items ≡ map (merged_scheme (dependencies_of l.deps)) (map (group_with l.lefts) (take l.first-index l.firsts))

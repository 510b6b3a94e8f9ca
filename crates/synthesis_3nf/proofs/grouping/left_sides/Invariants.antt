-- What the loop of `left_sides` keeps, in terms of `dependencies_of`, `schemes_of` and
-- `left_sides_after`.
use Rattle.std.proofs.Common.{◌≡◌, [], ◌++◌, drop}
use Rattle.dep_model.specs.Deps.{dependencies_of}
use Rattle.dep_model.specs.Plans.{schemes_of}
use Rattle.synthesis_3nf.specs.Groups.{left_sides_after}
use Rattle.synthesis_3nf.proofs.grouping.left_sides.Given as goal

abbrev pub invariant-loop-dep : goal.invariant-loop-dep
invariant-loop-dep l =
    left_sides_after [] (dependencies_of l.deps) ≡ schemes_of l.lefts.items ++ left_sides_after (schemes_of l.lefts.items) (dependencies_of (drop l.dep-index l.deps))

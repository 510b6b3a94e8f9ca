-- What the loop of `each_scheme` keeps, in terms of `dependencies_of`, `schemes_of` and
-- `group_scheme`.
use Rattle.std.proofs.Common.{◌≡◌, map, take}
use Rattle.dep_model.specs.Deps.{dependencies_of}
use Rattle.dep_model.specs.Plans.{schemes_of}
use Rattle.synthesis_3nf.specs.Groups.{group_scheme}
use Rattle.synthesis_3nf.proofs.grouping.each_scheme.Given as goal

abbrev pub invariant-loop-left : goal.invariant-loop-left
invariant-loop-left l = schemes_of l.schemes.items ≡ map (group_scheme (dependencies_of l.deps)) (schemes_of (take l.left-index l.lefts))

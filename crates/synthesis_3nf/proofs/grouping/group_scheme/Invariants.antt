-- What the loop of `group_scheme` keeps, in terms of `dependencies_of` and `group_scheme`.
use Rattle.std.proofs.Common.{◌≡◌, take}
use Rattle.attr_sets.specs.Sets.{attributes}
use Rattle.dep_model.specs.Deps.{dependencies_of}
use Rattle.synthesis_3nf.specs.Groups.{group_scheme}
use Rattle.synthesis_3nf.proofs.grouping.group_scheme.Given as goal

abbrev pub invariant-loop-dep : goal.invariant-loop-dep
invariant-loop-dep l = attributes l.scheme ≡ group_scheme (dependencies_of (take l.dep-index l.deps)) (attributes l.left)

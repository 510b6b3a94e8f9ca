-- The set has the left sides of the members before the index.
use Rattle.std.proofs.Common.{◌≡◌, take}
use Rattle.attr_sets.specs.Sets.{attributes}
use Rattle.dep_model.specs.Deps.{dependencies_of}
use Rattle.fd_closure.specs.LeftSides.{left_sides}
use Rattle.fd_closure.proofs.left_sides.left_attributes.Given as goal

abbrev pub invariant-loop-dep : goal.invariant-loop-dep
invariant-loop-dep l = attributes l.found ≡ left_sides (dependencies_of (take l.dep-index l.deps))

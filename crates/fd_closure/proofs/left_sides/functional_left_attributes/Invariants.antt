-- The set has the left sides within the reach of the functional members before the index.
use Rattle.std.proofs.Common.{◌≡◌, ℕ, ◌↔◌, true, take}
use Rattle.attr_sets.specs.Sets.{attributes}
use Rattle.dep_model.specs.Dependencies.{functional_part}
use Rattle.dep_model.specs.Deps.{dependencies_of}
use Rattle.fd_closure.specs.LeftSides.{InLeftSideWithin}
use Rattle.fd_closure.proofs.left_sides.functional_left_attributes.Given as goal

abbrev pub invariant-loop-dep : goal.invariant-loop-dep
invariant-loop-dep l = (a : ℕ) → (attributes l.found a ≡ true) ↔ InLeftSideWithin (attributes l.reach) (functional_part (dependencies_of (take l.dep-index l.deps))) a

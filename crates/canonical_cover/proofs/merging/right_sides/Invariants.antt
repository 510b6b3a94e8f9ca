-- What the loop of `right_sides` keeps, in terms of `gathered`.
use Rattle.std.proofs.Common.{◌≡◌, take}
use Rattle.attr_sets.specs.Sets.{attributes}
use Rattle.dep_model.specs.Deps.{dependency_of, dependencies_of}
use Rattle.canonical_cover.proofs.LoopLemmas.{gathered}
use Rattle.canonical_cover.proofs.merging.right_sides.Given as goal

abbrev pub invariant-loop-other : goal.invariant-loop-other
invariant-loop-other l = attributes l.right ≡ gathered (dependency_of l.dep) (dependencies_of (take l.other-index l.deps))

-- What the loop of `left_reduced_members` keeps, in terms of `dependencies_of`, `width_of`,
-- `theory_of` and three more.
use Rattle.std.proofs.Common.{take}
use Rattle.std.specs.List.{flat_map}
use Rattle.dep_model.specs.Deps.{dependencies_of}
use Rattle.dep_model.specs.Theories.{width_of, theory_of, deps_of}
use Rattle.min_cover.specs.Members.{members_of, AreLeftReduced}
use Rattle.min_cover.proofs.shortening.left_reduced_members.Given as goal

abbrev pub invariant-loop-dep : goal.invariant-loop-dep
invariant-loop-dep l =
    AreLeftReduced (width_of l.theory) (theory_of l.theory)
    (flat_map (members_of (width_of l.theory)) (dependencies_of (take l.dep-index (deps_of l.theory)))) l.members.items

-- What the loop of `add_members` keeps, in terms of `Dependency`, `fd`, `members_below` and three
-- more.
use Rattle.std.proofs.Common.{ℕ, List, ◌++◌}
use Rattle.std.specs.Prelude.{map}
use Rattle.attr_sets.specs.Attributes.{only, difference}
use Rattle.attr_sets.specs.Sets.{attributes}
use Rattle.dep_model.specs.Dependencies.{Dependency, fd}
use Rattle.dep_model.specs.Projections.{members_below}
use Rattle.dep_model.specs.Theories.{width_of, theory_of}
use Rattle.min_cover.specs.Members.{AreLeftReduced}
use Rattle.min_cover.proofs.shortening.add_members.Given as goal

abbrev pub invariant-loop-a : goal.invariant-loop-a
invariant-loop-a l =
    (firsts : List Dependency) → AreLeftReduced (width_of l.theory) (theory_of l.theory) firsts l.initial.members.items
    → AreLeftReduced (width_of l.theory) (theory_of l.theory)
    (firsts ++ map (λ (a : ℕ). fd (attributes l.lhs) (only a)) (members_below l.a (difference (attributes l.fn.rhs) (attributes l.lhs)))) l.members.items

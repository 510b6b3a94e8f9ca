-- What the loop of `add_members` keeps: the members of the attributes that were tried are there.
use Rattle.std.proofs.Common.{List, ◌++◌, ℕ, map}
use Rattle.std.specs.Prelude.{All}
use Rattle.attr_sets.specs.Attributes.{only, difference}
use Rattle.attr_sets.specs.Sets.{attributes}
use Rattle.dep_model.specs.Dependencies.{fd}
use Rattle.dep_model.specs.Projections.{members_below}
use Rattle.dep_model.specs.Theories.{width_of, theory_of, universe_of}
use Rattle.cover_accounts.specs.Steps.{Placed, AreShortMembers, placed, shortened_list}
use Rattle.cover_accounts.specs.Gathering.{IsMemberWithin}
use Rattle.cover_accounts.proofs.shortening.add_members.Given as goal

abbrev pub invariant-loop-a : goal.invariant-loop-a
invariant-loop-a l = record {
  members : (firsts : List Placed) → AreShortMembers (width_of l.theory) (theory_of l.theory) firsts (shortened_list l.initial.members.items)
      → AreShortMembers (width_of l.theory) (theory_of l.theory)
      (firsts ++ map (placed l.position) (map (λ (a : ℕ). fd (attributes l.lhs) (only a)) (members_below l.a (difference (attributes l.fn.rhs) (attributes l.lhs)))))
      (shortened_list l.members.items);
  within : All (IsMemberWithin (universe_of l.theory)) l.initial.members.items → All (IsMemberWithin (universe_of l.theory)) l.members.items;
}

-- What the loop of `short_members` keeps, in terms of `placed_members`.
use Rattle.std.proofs.Common.{take}
use Rattle.std.specs.Prelude.{All}
use Rattle.std.specs.List.{flat_map}
use Rattle.dep_model.specs.Theories.{width_of, theory_of, universe_of}
use Rattle.cover_accounts.specs.Steps.{AreShortMembers, placed_members, places_of, shortened_list}
use Rattle.cover_accounts.specs.Gathering.{IsMemberWithin}
use Rattle.cover_accounts.proofs.shortening.short_members.Given as goal

abbrev pub invariant-loop-one : goal.invariant-loop-one
invariant-loop-one l = record {
  members : AreShortMembers (width_of l.theory) (theory_of l.theory)
      (flat_map (placed_members (width_of l.theory)) (places_of (take l.one-index l.list))) (shortened_list l.members.items);
  within : All (IsMemberWithin (universe_of l.theory)) l.members.items;
}

-- What the loop of `placed_deps` keeps, in terms of `placed_from`.
use Rattle.std.proofs.Common.{◌≡◌, take}
use Rattle.std.specs.Prelude.{All}
use Rattle.dep_model.specs.Theories.{theory_of, universe_of}
use Rattle.cover_accounts.specs.Steps.{placed_from, places_of}
use Rattle.cover_accounts.specs.Gathering.{IsPlacedWithin}
use Rattle.cover_accounts.proofs.thinning.placed_deps.Given as goal

abbrev pub invariant-loop-k : goal.invariant-loop-k
invariant-loop-k l = record {
  placed : places_of l.list.items ≡ placed_from 0 (take l.k (theory_of l.theory));
  within : All (IsPlacedWithin (universe_of l.theory)) l.list.items;
}

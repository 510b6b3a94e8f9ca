-- What the loop of `part_from` keeps: how far the list is parted, and that all lies within.
use Rattle.std.proofs.Common.{◌≡◌, List, ◌++◌, length, take, drop}
use Rattle.std.specs.Prelude.{All}
use Rattle.attr_sets.specs.Attributes.{below}
use Rattle.dep_model.specs.Deps.{IsDepWithin}
use Rattle.cover_accounts.specs.Steps.{Placed, places_of}
use Rattle.cover_accounts.specs.Gathering.{IsPlacedWithin}
use Rattle.cover_accounts.proofs.PartLemmas.{IsPartedTo}
use Rattle.cover_accounts.proofs.thinning.part_from.Given as goal

abbrev pub invariant-loop-k : goal.invariant-loop-k
invariant-loop-k l = record {
  long : length l.others.items ≡ length l.list;
  within : All (IsDepWithin (below l.width)) l.others.items;
  kept_within : All (IsPlacedWithin (below l.width)) l.kept.items;
  out : List Placed;
  out_is : places_of l.gone.items ≡ places_of l.fn.gone.items ++ out;
  parted : IsPartedTo l.width (drop l.from l.list) (take l.from l.list) l.list l.others.items l.kept.items out l.k;
}

-- What the loop of `nonredundant_from` keeps: `long`, `within`, `kept_within` and `thinned`.
use Rattle.std.proofs.Common.{◌≡◌, length, take, drop}
use Rattle.std.specs.Prelude.{All}
use Rattle.attr_sets.specs.Attributes.{below}
use Rattle.dep_model.specs.Deps.{IsDepWithin}
use Rattle.min_cover.proofs.ThinningLemmas.{IsThinnedTo}
use Rattle.min_cover.proofs.thinning.nonredundant_from.Given as goal

abbrev pub invariant-loop-k : goal.invariant-loop-k
invariant-loop-k l = record {
  long : length l.others.items ≡ length l.initial.others.items;
  within : All (IsDepWithin (below l.width)) l.others.items;
  kept_within : All (IsDepWithin (below l.width)) l.kept.items;
  thinned : IsThinnedTo l.width (drop l.fn.from l.initial.others.items) (take l.fn.from l.initial.others.items) l.others.items l.kept.items l.k;
}

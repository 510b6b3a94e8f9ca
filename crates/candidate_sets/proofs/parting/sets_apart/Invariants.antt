-- What the loop of `sets_apart` keeps: `apart`, `numbers`.
use Rattle.std.proofs.Common.{◌≡◌, ◌<◌, ◌^◌, filter, take}
use Rattle.std.specs.Prelude.{All}
use Rattle.attr_sets.specs.declared.set.AttrSet.{AttrSet}
use Rattle.attr_sets.specs.declared.set.TheConstants.{MOST_ATTRIBUTES}
use Rattle.attr_sets.specs.Sets.{attributes}
use Rattle.candidate_sets.specs.Growing.{is_apart}
use Rattle.candidate_sets.proofs.parting.sets_apart.Given as goal

abbrev pub invariant-loop-set : goal.invariant-loop-set
invariant-loop-set l = record {
  apart : l.apart.items ≡ filter (is_apart (attributes l.bound)) (take l.set-index l.sets);
  numbers : All (λ (s : AttrSet). s.0 < 2 ^ MOST_ATTRIBUTES) l.apart.items;
}

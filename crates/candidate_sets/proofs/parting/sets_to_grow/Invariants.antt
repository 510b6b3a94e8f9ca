-- What the loop of `sets_to_grow` keeps.
use Rattle.std.proofs.Common.{◌≡◌, filter, take}
use Rattle.attr_sets.specs.Sets.{attributes}
use Rattle.candidate_sets.specs.Growing.{can_grow}
use Rattle.candidate_sets.proofs.parting.sets_to_grow.Given as goal

abbrev pub invariant-loop-set : goal.invariant-loop-set
invariant-loop-set l = l.hits.items ≡ filter (can_grow (attributes l.bound) l.most) (take l.set-index l.sets)

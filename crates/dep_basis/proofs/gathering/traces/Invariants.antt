-- What the loop of `traces` keeps: `found`, `room`, `size` and `rest`; and by what it ends.
use Rattle.std.proofs.Common.{◌≡◌, ◌+◌, ◌≤◌, length, take, drop}
use Rattle.std.specs.Prelude.{All}
use Rattle.attr_sets.specs.Attributes.{IsEmpty, count_below}
use Rattle.attr_sets.specs.Sets.{attributes}
use Rattle.attr_sets.specs.declared.set.TheConstants.{MOST_ATTRIBUTES}
use Rattle.dep_model.specs.Deps.{dependencies_of}
use Rattle.dep_basis.specs.declared.pieces.TheConstants.{MOST_BLOCKS}
use Rattle.dep_basis.proofs.GatheringLemmas.{IsFound}
use Rattle.dep_basis.proofs.gathering.traces.Given as goal

abbrev pub invariant-loop-first : goal.invariant-loop-first
invariant-loop-first l = record {
  found : IsFound l.width (dependencies_of l.deps) (attributes l.scheme) (attributes l.fn.lhs) (attributes l.left) (attributes l.closed) (take l.count l.blocks);
  room : l.count + count_below (attributes l.left) MOST_ATTRIBUTES ≤ MOST_ATTRIBUTES;
  size : length l.blocks ≡ MOST_BLOCKS;
  rest : All (λ q. IsEmpty (attributes q)) (drop l.count l.blocks);
}

abbrev pub decreases-loop-first : goal.decreases-loop-first
decreases-loop-first l = count_below (attributes l.left) MOST_ATTRIBUTES

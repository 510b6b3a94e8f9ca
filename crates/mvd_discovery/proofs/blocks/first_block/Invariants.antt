-- What the loop of `first_block` keeps: no set before the one at hand is obeyed; and by what it ends.
use Rattle.std.proofs.Common.{◌-◌, ◌^◌}
use Rattle.attr_sets.specs.Attributes.{IsSubset}
use Rattle.attr_sets.specs.Sets.{attributes}
use Rattle.attr_sets.specs.declared.set.TheConstants.{MOST_ATTRIBUTES}
use Rattle.dep_model.specs.Tuples.{Relation}
use Rattle.mvd_laws.specs.Reduced.{IsPartOfRows}
use Rattle.mvd_discovery.specs.Counting.{AreCounts}
use Rattle.mvd_discovery.proofs.SearchLemmas.{IsNoneBefore}
use Rattle.mvd_discovery.proofs.blocks.first_block.Given as goal

abbrev pub invariant-loop-next : goal.invariant-loop-next
invariant-loop-next l = record {
  within : IsSubset (attributes l.part) (attributes l.others);
  none : (r : Relation) → AreCounts r l.counts → IsPartOfRows l.counts.width r (attributes l.left) (attributes l.fn.blocks)
      → IsNoneBefore l.counts.width r (attributes l.left) (attributes l.fn.blocks) l.first (attributes l.part);
}

abbrev pub decreases-loop-next : goal.decreases-loop-next
decreases-loop-next l = 2 ^ MOST_ATTRIBUTES - l.part.0

-- What the loop of `add_blocks` keeps: which blocks are still to come, and what was found; and by what it ends.
use Rattle.attr_sets.specs.Attributes.{Disjoint, IsBefore, IsSubset, below, count_below}
use Rattle.attr_sets.specs.Sets.{attributes}
use Rattle.attr_sets.specs.declared.set.TheConstants.{MOST_ATTRIBUTES}
use Rattle.dep_model.specs.Dependencies.{ObeysMvd}
use Rattle.dep_model.specs.Deps.{dependencies_of}
use Rattle.dep_model.specs.Tuples.{Relation}
use Rattle.mvd_discovery.specs.Counting.{AreCounts}
use Rattle.mvd_discovery.specs.Listing.{AreReducedBeside, AreReducedOf}
use Rattle.mvd_discovery.proofs.reduced.add_blocks.Given as goal

abbrev pub invariant-loop-first : goal.invariant-loop-first
invariant-loop-first l = record {
  within : IsSubset (attributes l.blocks) (below l.counts.width);
  apart : Disjoint (attributes l.blocks) (attributes l.left);
  obeyed : (r : Relation) → AreCounts r l.counts → ObeysMvd (below l.counts.width) (attributes l.left) (attributes l.blocks) r;
  found : (r : Relation) → AreCounts r l.counts
      → AreReducedOf l.counts.width r (λ x. IsBefore x (attributes l.left)) (dependencies_of l.fn.found.items)
      → AreReducedBeside l.counts.width r (attributes l.left) (attributes l.blocks) (dependencies_of l.found.items);
}

abbrev pub decreases-loop-first : goal.decreases-loop-first
decreases-loop-first l = count_below (attributes l.blocks) MOST_ATTRIBUTES

-- What the loop of `reduced_dependencies` keeps: the left sides before the one that comes were tried; and by what
-- it ends.
use Rattle.std.specs.Prelude.{IfSome}
use Rattle.attr_sets.specs.Attributes.{IsSubset, below}
use Rattle.attr_sets.specs.Sets.{attributes}
use Rattle.dep_model.specs.Deps.{dependencies_of}
use Rattle.dep_model.specs.Tuples.{Relation}
use Rattle.mvd_discovery.specs.Counting.{AreCounts}
use Rattle.mvd_discovery.proofs.ListingLemmas.{AreReducedSoFar, sets_left}
use Rattle.mvd_discovery.proofs.reduced.reduced_dependencies.Given as goal

abbrev pub invariant-loop-next : goal.invariant-loop-next
invariant-loop-next l = record {
  within : IfSome l.next (λ left. IsSubset (attributes left) (below l.counts.width));
  found : (r : Relation) → AreCounts r l.counts → AreReducedSoFar l.counts.width r l.next (dependencies_of l.found.items);
}

abbrev pub decreases-loop-next : goal.decreases-loop-next
decreases-loop-next l = sets_left l.next

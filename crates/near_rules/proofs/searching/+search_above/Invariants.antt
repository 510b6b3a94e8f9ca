-- What the loop of `search_above` keeps: the sets with further members below the attribute are tried; and by what
-- it ends.
use Rattle.attr_sets.specs.Attributes.{union, below}
use Rattle.attr_sets.specs.Sets.{attributes}
use Rattle.dep_model.specs.Tuples.{Relation}
use Rattle.near_rules.specs.Searching.{AreNearFoundUpTo, AreGrouped, AreSought}
use Rattle.near_rules.proofs.searching.+search_above.Given as goal

abbrev pub decreases-search_above : goal.decreases-search_above
decreases-search_above l = l.bound

abbrev pub invariant-loop-attribute : goal.invariant-loop-attribute
invariant-loop-attribute l = record {
  found : (r : Relation) → AreSought r l.sought → AreGrouped r (attributes l.set) l.groups
      → AreNearFoundUpTo l.sought r (attributes l.set) l.fn.found
      → AreNearFoundUpTo l.sought r (union (attributes l.set) (below l.attribute)) l.found;
}

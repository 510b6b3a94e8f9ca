-- What the loop of `search_above` keeps: `found`; and by what it ends.
use Rattle.attr_sets.specs.Attributes.{union, below}
use Rattle.attr_sets.specs.Sets.{attributes}
use Rattle.dep_model.specs.Tuples.{Relation}
use Rattle.fd_discovery.specs.Leaders.{AreLed}
use Rattle.fd_discovery.specs.Searching.{AreFoundUpTo}
use Rattle.fd_discovery.proofs.searching.+search_above.Given as goal

abbrev pub decreases-search_above : goal.decreases-search_above
decreases-search_above l = l.bound

-- the sets with further members below the attribute are tried
abbrev pub invariant-loop-attribute : goal.invariant-loop-attribute
invariant-loop-attribute l = record {
  found : (r : Relation) → AreLed r l.table (attributes l.set) l.leaders
      → AreFoundUpTo l.table.width r (attributes l.set) l.fn.found.items
      → AreFoundUpTo l.table.width r (union (attributes l.set) (below l.attribute)) l.found.items;
}

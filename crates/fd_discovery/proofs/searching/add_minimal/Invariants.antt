-- What the loop of `add_minimal` keeps: `added`.
use Rattle.attr_sets.specs.Attributes.{IsSubset, below}
use Rattle.attr_sets.specs.Sets.{attributes}
use Rattle.dep_model.specs.Deps.{dependencies_of}
use Rattle.dep_model.specs.Tuples.{Relation}
use Rattle.fd_discovery.specs.Leaders.{AreLed}
use Rattle.fd_discovery.specs.Searching.{AreUndetermined, AreFoundBefore}
use Rattle.fd_discovery.proofs.SearchLemmas.{AreAdded}
use Rattle.fd_discovery.proofs.searching.add_minimal.Given as goal

-- the attributes so far are tried
abbrev pub invariant-loop-attribute : goal.invariant-loop-attribute
invariant-loop-attribute l = record {
  added : (r : Relation) → AreLed r l.table (attributes l.set) l.leaders → IsSubset (attributes l.set) (below l.table.width)
      → AreUndetermined l.table.width (dependencies_of l.fn.found.items) (attributes l.set) (attributes l.wanted)
      → AreFoundBefore l.table.width r (attributes l.set) l.fn.found.items
      → AreAdded l.table.width r (attributes l.set) (attributes l.wanted) l.attribute (dependencies_of l.found.items);
}

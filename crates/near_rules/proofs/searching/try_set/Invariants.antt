-- What the loop of `try_set` keeps: the right sides so far are tried, and what is listed stays listed.
use Rattle.std.proofs.Common.{◌≡◌, ◌++◌, List}
use Rattle.attr_sets.specs.Sets.{attributes}
use Rattle.dep_model.specs.Tuples.{Relation}
use Rattle.dep_model.specs.declared.dep.Dep.{Dep}
use Rattle.near_rules.specs.Searching.{AreNearFoundBefore, AreGrouped, AreSought}
use Rattle.near_rules.proofs.searching.try_set.Given as goal

abbrev pub invariant-loop-attribute : goal.invariant-loop-attribute
invariant-loop-attribute l = record {
  found : (r : Relation) → AreSought r l.sought → AreGrouped r (attributes l.set) l.groups
      → AreNearFoundBefore l.sought r (attributes l.set) 0 l.fn.found
      → AreNearFoundBefore l.sought r (attributes l.set) l.attribute l.found;
  kept : (more : List Dep) × (l.found.deps.items ≡ l.fn.found.deps.items ++ more);
}

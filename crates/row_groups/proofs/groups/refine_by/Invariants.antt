-- What the loop of `refine_by` keeps: `count` and `groups`.
use Rattle.std.proofs.Common.{◌≡◌, ℕ, length}
use Rattle.attr_sets.specs.Attributes.{Attributes, intersection, below, union}
use Rattle.attr_sets.specs.Sets.{attributes}
use Rattle.dep_model.specs.Tuples.{Relation}
use Rattle.row_groups.specs.Numberings.{AreGroups}
use Rattle.row_groups.specs.Interning.{IsInterned}
use Rattle.row_groups.proofs.groups.refine_by.Given as goal

-- the rows are grouped by the members of the set before the attribute too
abbrev pub invariant-loop-attribute : goal.invariant-loop-attribute
invariant-loop-attribute l = record {
  count : length l.numbers.items ≡ length l.fn.groups.items;
  groups : (n : ℕ) (rows : Relation) (x : Attributes) → IsInterned n rows l.codes → AreGroups rows x l.fn.groups.items
      → AreGroups rows (union x (intersection (attributes l.set) (below l.attribute))) l.numbers.items;
}

-- What the loop of `add_larger` keeps: `adds`.
use Rattle.attr_sets.specs.Sets.{attributes}
use Rattle.file_references.specs.Keys.{AddsLargerUpTo}
use Rattle.file_references.proofs.column_sets.add_larger.Given as goal

-- the attributes so far
abbrev pub invariant-loop-attribute : goal.invariant-loop-attribute
invariant-loop-attribute l = record {
  adds : AddsLargerUpTo (attributes l.whole) (attributes l.set) l.attribute l.fn.larger.items l.larger.items;
}

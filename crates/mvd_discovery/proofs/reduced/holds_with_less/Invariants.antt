-- What the loop of `holds_with_less` keeps: of no attribute so far is it so.
use Rattle.std.proofs.Common.{◌<◌, ℕ}
use Rattle.attr_sets.specs.Sets.{attributes}
use Rattle.dep_model.specs.Tuples.{Relation}
use Rattle.mvd_laws.specs.Reduced.{HoldsWithLess}
use Rattle.mvd_discovery.specs.Counting.{AreCounts}
use Rattle.mvd_discovery.proofs.reduced.holds_with_less.Given as goal

abbrev pub invariant-loop-attribute : goal.invariant-loop-attribute
invariant-loop-attribute l = record {
  none : (r : Relation) → AreCounts r l.counts → (a : ℕ) → a < l.attribute
      → HoldsWithLess l.counts.width r (attributes l.left) (attributes l.right) a → ⊥;
}

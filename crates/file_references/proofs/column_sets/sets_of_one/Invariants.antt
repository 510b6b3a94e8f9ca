-- What the loop of `sets_of_one` keeps: `each` and `all`.
use Rattle.std.proofs.Common.{◌≡◌, ◌<◌, ℕ, true}
use Rattle.std.specs.Prelude.{All, Any}
use Rattle.attr_sets.specs.Attributes.{IsSubset, count_below, only}
use Rattle.attr_sets.specs.Sets.{attributes}
use Rattle.attr_sets.specs.declared.set.AttrSet.{AttrSet}
use Rattle.attr_sets.specs.declared.set.TheConstants.{MOST_ATTRIBUTES}
use Rattle.file_references.proofs.column_sets.sets_of_one.Given as goal

-- the members so far
abbrev pub invariant-loop-attribute : goal.invariant-loop-attribute
invariant-loop-attribute l = record {
  each : All (λ (s : AttrSet). IsSubset (attributes s) (attributes l.whole) × (count_below (attributes s) MOST_ATTRIBUTES ≡ 1)) l.sets.items;
  all : (a : ℕ) → a < l.attribute → attributes l.whole a ≡ true → Any (λ (s : AttrSet). attributes s ≡ only a) l.sets.items;
}

-- What the loop of `has_within` keeps: `none`.
use Rattle.std.proofs.Common.{take}
use Rattle.std.specs.Prelude.{All}
use Rattle.attr_sets.specs.Attributes.{IsSubset}
use Rattle.attr_sets.specs.Sets.{attributes}
use Rattle.attr_sets.specs.declared.set.AttrSet.{AttrSet}
use Rattle.file_references.proofs.column_sets.has_within.Given as goal

-- none of the sets so far lies within the other
abbrev pub invariant-loop-other : goal.invariant-loop-other
invariant-loop-other l = record {
  none : All (λ (s : AttrSet). IsSubset (attributes s) (attributes l.set) → ⊥) (take l.other-index l.sets);
}

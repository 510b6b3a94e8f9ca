use Rattle.std.proofs.Common.{ℕ, ◌<◌, get_or}
use Rattle.attr_sets.specs.Attributes.{Intersects}
use Rattle.attr_sets.specs.declared.set.AttrSet.{AttrSet}
use Rattle.attr_sets.specs.Sets.{attributes}
use Rattle.dep_basis.proofs.deciding.first_intersecting.Given as goal

abbrev pub invariant-loop-block : goal.invariant-loop-block
invariant-loop-block l =
    (j : ℕ) (d : AttrSet) → j < l.block-index
    → Intersects (attributes (get_or l.blocks j d)) (attributes l.one) × Intersects (attributes (get_or l.blocks j d)) (attributes l.other) → ⊥

use Rattle.std.proofs.Common.{◌≡◌, ℕ, ◌<◌, true, false, get_or}
use Rattle.std.specs.Prelude.{◌↔◌}
use Rattle.attr_sets.specs.declared.set.AttrSet.{AttrSet}
use Rattle.attr_sets.specs.Sets.{attributes}
use Rattle.dep_basis.proofs.pieces.outside_all.Given as goal

abbrev pub invariant-loop-piece : goal.invariant-loop-piece
invariant-loop-piece l =
    (a : ℕ) → (attributes l.left a ≡ true) ↔ (attributes l.fn.universe a ≡ true) × ((j : ℕ) (d : AttrSet) → j < l.piece-index → attributes (get_or l.pieces j d) a ≡ false)

-- What the loop of `in_no_set` keeps: what is so of the sets that were looked at.
use Rattle.std.proofs.Common.{◌≡◌, ◌↔◌, ℕ, true, false, take}
use Rattle.std.specs.Prelude.{All}
use Rattle.attr_sets.specs.Attributes.{below}
use Rattle.attr_sets.specs.Sets.{attributes}
use Rattle.desk_keys.proofs.key_reasons.in_no_set.Given as goal

abbrev pub invariant-loop-set : goal.invariant-loop-set
invariant-loop-set l =
    (a : ℕ) → (attributes l.absent a ≡ true) ↔ ((below l.width a ≡ true) × All (λ set. attributes set a ≡ false) (take l.set-index l.sets))

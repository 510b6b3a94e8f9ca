-- What the loop of `is_independent` keeps: none of the attributes before the index is determined without
-- itself.
use Rattle.std.proofs.Common.{◌≡◌, ◌<◌, ℕ, true, false}
use Rattle.attr_sets.specs.Attributes.{only, difference}
use Rattle.attr_sets.specs.Sets.{attributes}
use Rattle.dep_model.specs.Keys.{InClosure}
use Rattle.dep_model.specs.Theories.{width_of}
use Rattle.normal_forms.specs.Passing.{theory_by}
use Rattle.normal_forms.proofs.passing.is_independent.Given as goal

abbrev pub invariant-loop-i : goal.invariant-loop-i
invariant-loop-i l =
    (a : ℕ) → a < l.i → attributes l.most a ≡ true → attributes l.least a ≡ false
    → InClosure (width_of l.theory) (theory_by l.functional l.theory) (difference (attributes l.most) (only a)) a → ⊥

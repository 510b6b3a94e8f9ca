-- What the loop of `is_key` keeps: no attribute before the index that was tried is spare.
use Rattle.std.proofs.Common.{◌≡◌, ◌<◌, ℕ, true}
use Rattle.attr_sets.specs.Attributes.{only, difference}
use Rattle.attr_sets.specs.Sets.{attributes}
use Rattle.dep_model.specs.Keys.{IsSuperkey}
use Rattle.dep_model.specs.Theories.{width_of}
use Rattle.which_form.specs.KeyRanges.{functional_of}
use Rattle.which_form.proofs.keys.is_key.Given as goal

abbrev pub invariant-loop-i : goal.invariant-loop-i
invariant-loop-i l =
    (a : ℕ) → a < l.i → attributes l.tried a ≡ true
    → IsSuperkey (width_of l.theory) (functional_of l.theory) (attributes l.range.scheme) (difference (attributes l.set) (only a)) → ⊥

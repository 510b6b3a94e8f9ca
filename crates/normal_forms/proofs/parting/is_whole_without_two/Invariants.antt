-- What the loop of `is_whole_without_two` keeps: without an attribute before the index, and without one
-- more, the set has never two parts.
use Rattle.std.proofs.Common.{◌≡◌, ◌<◌, ℕ, true, false}
use Rattle.attr_sets.specs.Attributes.{only, difference}
use Rattle.attr_sets.specs.Sets.{attributes}
use Rattle.dep_model.specs.Theories.{width_of, theory_of}
use Rattle.normal_forms.specs.Passing.{HasNoPartsAbout}
use Rattle.normal_forms.proofs.parting.is_whole_without_two.Given as goal

abbrev pub invariant-loop-i : goal.invariant-loop-i
invariant-loop-i l =
    (a : ℕ) → a < l.i → attributes l.most a ≡ true → attributes l.least a ≡ false
    → HasNoPartsAbout (width_of l.theory) (theory_of l.theory) (attributes l.scheme) (attributes l.least) (difference (attributes l.most) (only a))

-- What the loop of `has_no_parts_about` keeps: without none of the attributes before the index has the
-- set two parts.
use Rattle.std.proofs.Common.{◌≡◌, ◌<◌, ℕ, true, false}
use Rattle.attr_sets.specs.Attributes.{only, difference}
use Rattle.attr_sets.specs.Sets.{attributes}
use Rattle.dep_model.specs.Theories.{width_of, theory_of}
use Rattle.dep_basis.specs.Parts.{HasTwoParts}
use Rattle.normal_forms.proofs.parting.has_no_parts_about.Given as goal

abbrev pub invariant-loop-i : goal.invariant-loop-i
invariant-loop-i l =
    (a : ℕ) → a < l.i → attributes l.most a ≡ true → attributes l.least a ≡ false
    → HasTwoParts (width_of l.theory) (theory_of l.theory) (attributes l.scheme) (difference (attributes l.most) (only a)) → ⊥

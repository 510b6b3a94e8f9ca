-- What the loop of `attributes_in_every_key` keeps, in terms of `width_of`, `functional_of` and
-- `IsInEveryKey`.
use Rattle.std.proofs.Common.{◌≡◌, ◌<◌, ℕ, true}
use Rattle.std.specs.Prelude.{◌↔◌}
use Rattle.attr_sets.specs.Sets.{attributes}
use Rattle.dep_model.specs.Theories.{width_of}
use Rattle.which_form.specs.KeyRanges.{functional_of}
use Rattle.key_listing.specs.Narrowing.{IsInEveryKey}
use Rattle.which_form.proofs.ranges.attributes_in_every_key.Given as goal

abbrev pub invariant-loop-i : goal.invariant-loop-i
invariant-loop-i l = (a : ℕ) → (attributes l.in_every_key a ≡ true) ↔ ((a < l.i) × IsInEveryKey (width_of l.theory) (functional_of l.theory) (attributes l.scheme) a)

-- What the loop of `split_steps` keeps: `walked`, `lead`, `within_limit` and `tried`; and by what it
-- ends.
use Rattle.std.proofs.Common.{◌+◌, ◌-◌, ◌*◌, ◌≤◌, [], ◌∷◌, length}
use Rattle.attr_sets.specs.Attributes.{below}
use Rattle.dep_model.specs.Plans.{schemes_of}
use Rattle.dep_model.specs.Theories.{width_of, theory_of}
use Rattle.split_forms.specs.Outcomes.{AreTried}
use Rattle.split_forms.specs.Steps.{CutsLead, cuttings_of}
use Rattle.split_forms.proofs.WalkLemmas.{IsWalkedTo}
use Rattle.split_forms.proofs.steps.split_steps.Given as goal

abbrev pub invariant-loop-at : goal.invariant-loop-at
invariant-loop-at l = record {
  walked : IsWalkedTo (width_of l.theory) (theory_of l.theory) l.form l.schemes.items l.at;
  lead : CutsLead (width_of l.theory) (theory_of l.theory) l.form (below (width_of l.theory) ∷ []) (cuttings_of l.cuts.items) (schemes_of l.schemes.items);
  within_limit : length l.schemes.items ≤ l.limit;
  tried : AreTried (width_of l.theory) (theory_of l.theory) l.form l.tried.items;
}

abbrev pub decreases-loop-at : goal.decreases-loop-at
decreases-loop-at l = 2 * (l.limit + 1 - length l.schemes.items) + (length l.schemes.items - l.at)

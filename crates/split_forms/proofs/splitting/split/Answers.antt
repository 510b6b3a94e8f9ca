-- What is left to prove of `split`: its clauses and what `plan_of_steps` requires, by `SplitLemmas` and
-- `LeadLemmas`.
use Rattle.std.proofs.Common.{◌≡◌, ℕ, ◌-◌, ◌^◌, ◌<◌, ◌≤◌, List, sym, subst, arith}
use Rattle.std.specs.Prelude.{Result, Err, IfErr}
use Rattle.dep_model.specs.Theories.{Theory}
use Rattle.dep_model.specs.Failures.{RefusesAs}
use Rattle.dep_model.specs.declared.failure.Failure.{Failure}
use Rattle.dep_model.specs.declared.failure.Failure.TheVariants.{Refused}
use Rattle.dep_model.specs.Plans.{schemes_of}
use Rattle.dep_model.specs.Theories.{width_of, theory_of}
use Rattle.dep_model.specs.Dependencies.{Dependency}
use Rattle.dep_model.specs.declared.form.Form.{Form}
use Rattle.dep_model.specs.declared.form.Form.TheVariants.{Third}
use Rattle.plans.specs.declared.plan.Plan.{Plan}
use Rattle.split_forms.specs.declared.refusal.SplitRefusal.{SplitRefusal}
use Rattle.split_forms.specs.declared.refusal.SplitRefusal.TheVariants.{TooManySchemes}
use Rattle.split_forms.specs.Refusals.{IsRefusedSplit}
use Rattle.split_forms.specs.Splitting.{FinishedList}
use Rattle.split_forms.specs.declared.steps.SplitSteps.{SplitSteps}
use Rattle.split_forms.specs.Steps.{AreSplitSteps, cuttings_of}
use Rattle.split_forms.proofs.LeadLemmas.{steps_finish}
use Rattle.split_forms.proofs.SplitLemmas.{too_many_short}
use Rattle.split_forms.proofs.splitting.split.Goals as goal

attributes_not_empty : (s : Theory) → 0 < width_of s
attributes_not_empty s = s.valid.not_empty

never : (n : ℕ) (ds : List Dependency) (form : Form) (limit : ℕ) (result : Result Plan (Failure SplitRefusal)) → 0 < n
    → (form ≡ Third → ⊥) → IfErr result (RefusesAs (IsRefusedSplit n ds form limit))
    → 2 ^ (n - 1) ≤ limit → result ≡ Err (Refused TooManySchemes) → ⊥
never n ds form limit result not_empty split refused large is =
    let many : IsRefusedSplit n ds form limit TooManySchemes =
    subst (λ (r : Result Plan (Failure SplitRefusal)). IfErr r (RefusesAs (IsRefusedSplit n ds form limit))) is refused in
    absurd (omega (arith, too_many_short n ds form not_empty split limit many.0, large))

pub returns-in-Err-clause-never_too_many : goal.returns-in-Err-clause-never_too_many
returns-in-Err-clause-never_too_many c large is =
    let s = c.args.theory.now in
    never (width_of s) (theory_of s) c.args.form c.args.limit (Err c.in-Err.failure) (attributes_not_empty s) c.requires.form
    c.in-Err.ensures.refused large is

-- the list that the cuts lead to, in the form of the steps
finished : (s : Theory) (form : Form) (steps : SplitSteps) → steps.form ≡ form
    → AreSplitSteps (width_of s) (theory_of s) form (cuttings_of steps.cuts.items) (schemes_of steps.schemes.items)
    → FinishedList (width_of s) (theory_of s) steps.form (schemes_of steps.schemes.items)
finished s form steps is lead =
    subst (λ (f : Form). FinishedList (width_of s) (theory_of s) f (schemes_of steps.schemes.items)) (sym is)
    (steps_finish (width_of s) (theory_of s) form (cuttings_of steps.cuts.items) (schemes_of steps.schemes.items) lead)

pub plan_of_steps-requires-clause-finished : goal.plan_of_steps-requires-clause-finished
plan_of_steps-requires-clause-finished c =
    finished c.args.theory.now c.args.form c.in-Ok.steps c.in-Ok.ensures.form c.in-Ok.ensures.steps

pub returns-in_ok-plan_of_steps-in-Ok-clause-finished : goal.returns-in_ok-plan_of_steps-in-Ok-clause-finished
returns-in_ok-plan_of_steps-in-Ok-clause-finished c =
    let s = c.args.theory.now in
    let steps = c.in-Ok.steps in
    record {
      all = steps.schemes.items;
      finished = steps_finish (width_of s) (theory_of s) c.args.form (cuttings_of steps.cuts.items) (schemes_of steps.schemes.items) c.in-Ok.ensures.steps;
      kept = c.in_ok-plan_of_steps-in-Ok.ensures.kept;
    }

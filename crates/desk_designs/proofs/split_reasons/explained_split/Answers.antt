-- What is left to prove of `explained_split`: what `split_with_reasons` and `split_exit` require, and its clauses.
use Rattle.std.proofs.Common.{◌≡◌, sym, subst, ◌∙◌}
use Rattle.dep_model.proofs.FailureLemmas.{refused_is}
use Rattle.dep_model.specs.Plans.{schemes_of}
use Rattle.dep_model.specs.declared.form.Form.{Form}
use Rattle.plans.specs.Plans.{scheme_sets}
use Rattle.schema_model.specs.Schemas.{width_of, theory_of}
use Rattle.split_forms.specs.Refusals.{IsWithinLimits}
use Rattle.split_forms.specs.Steps.{AreSplitSteps, cuttings_of}
use Rattle.desk_designs.specs.declared.decomposition.TheConstants.{MOST_SPLIT_SCHEMES}
use Rattle.desk_designs.specs.Decompositions.{IsSplitInForm}
use Rattle.desk_designs.specs.SplitReasons.{AreSplitReasons}
use Rattle.desk_designs.proofs.split_reasons.explained_split.Goals as goal

pub split_with_reasons-requires : goal.split_with_reasons-requires
split_with_reasons-requires c =
    let s = c.args.schema.now in
    let steps = c.in-Ok.steps in
    let is = c.in-Ok.ensures.form in
    record {
      form = λ third. c.requires.form (sym is ∙ third);
      steps = subst (λ (f : Form). AreSplitSteps (width_of s) (theory_of s) f (cuttings_of steps.cuts.items) (schemes_of steps.schemes.items)) (sym is)
          (rw (c.theory.ensures.theory) at c.in-Ok.ensures.steps);
      within_limits = subst (λ (f : Form). IsWithinLimits (width_of s) (theory_of s) f MOST_SPLIT_SCHEMES) (sym is) (rw (c.theory.ensures.theory) at c.in-Ok.ensures.within_limits);
    }

pub split_exit-requires : goal.split_exit-requires
split_exit-requires c = record {
  refused = (c.args.form, c.requires.form, refused_is _ _ _ c.in-Err-Refused.field-0-is (rw (c.theory.ensures.theory) at c.in-Err-Refused.ensures.refused));
}

pub returns-in-Err-Refused-clause-exit : goal.returns-in-Err-Refused-clause-exit
returns-in-Err-Refused-clause-exit c =
    c.split_exit.ensures.exit c.args.form (refused_is _ _ _ c.in-Err-Refused.field-0-is (rw (c.theory.ensures.theory) at c.in-Err-Refused.ensures.refused))

pub returns-in_ok-split_with_reasons-in-Ok : goal.returns-in_ok-split_with_reasons-in-Ok
returns-in_ok-split_with_reasons-in-Ok c =
    let s = c.args.schema.now in
    let found = c.in_ok-split_with_reasons-in-Ok in
    let is = c.in-Ok.ensures.form in
    record {
      split = subst (λ (f : Form). IsSplitInForm s f (scheme_sets found.field-0.plan)) is found.ensures.split;
      universe = found.ensures.universe;
      reasons = subst (λ (f : Form). AreSplitReasons s f found.field-0.reasons.items) is found.ensures.reasons;
      exit = tt;
    }

-- What is left to prove of `split_with_reasons`: what `plan_of_steps` and `print_reasons` require, and its clauses.
use Rattle.std.proofs.Common.{◌≡◌, List, ap, ◌∙◌}
use Rattle.attr_sets.specs.declared.set.AttrSet.{AttrSet}
use Rattle.dep_model.specs.Plans.{schemes_of}
use Rattle.schema_model.specs.Schemas.{width_of, theory_of}
use Rattle.schema_printer.specs.Spelling.{printed_names_of}
use Rattle.split_forms.specs.declared.steps.SchemeCut.{SchemeCut}
use Rattle.split_forms.specs.Steps.{cuttings_of}
use Rattle.split_forms.proofs.LeadLemmas.{steps_finish}
use Rattle.desk_designs.specs.SplitReasons.{split_text}
use Rattle.desk_designs.proofs.split_reasons.split_with_reasons.Goals as goal

pub plan_of_steps-requires : goal.plan_of_steps-requires
plan_of_steps-requires c =
    let s = c.args.schema.now in
    let steps = c.args.steps.now in
    record {
      form = c.requires.form;
      finished = rw (c.theory.ensures.theory)
          (steps_finish (width_of s) (theory_of s) steps.form (cuttings_of steps.cuts.items) (schemes_of steps.schemes.items) c.requires.steps);
    }

pub print_reasons-requires : goal.print_reasons-requires
print_reasons-requires c = record { kept = rw c.deref-2.ensures.value (c.schemes.ensures.schemes ∙ c.in_ok-plan.ensures.kept) }

pub returns : goal.returns
returns c =
    let s = c.args.schema.now in
    let names = printed_names_of s in
    let steps = c.args.steps.now in
    let all = steps.schemes.items in
    let reads : c.in_ok-reasons.reasons.items ≡ split_text names steps.form (cuttings_of steps.cuts.items) all =
    c.in_ok-reasons.ensures.text
    ∙ ap (λ (cuts : List SchemeCut). split_text names steps.form (cuttings_of cuts) c.deref-2.result.now) c.deref.ensures.value
    ∙ ap (λ (xs : List AttrSet). split_text names steps.form (cuttings_of steps.cuts.items) xs) c.deref-2.ensures.value in
    record {
      split = record {
        split = record {
          all = all;
          finished = steps_finish (width_of s) (theory_of s) steps.form (cuttings_of steps.cuts.items) (schemes_of all) c.requires.steps;
          kept = c.in_ok-plan.ensures.kept;
        };
        within_limits = c.requires.within_limits;
        lossless = rw (c.theory.ensures.theory) at c.in_ok-plan.ensures.lossless;
        in_form = rw (c.theory.ensures.theory) at c.in_ok-plan.ensures.in_form;
      };
      universe = rw (c.theory.ensures.theory) at c.in_ok-plan.ensures.universe;
      reasons = record {
        cuts = cuttings_of steps.cuts.items;
        all = all;
        steps = c.requires.steps;
        reads = reads;
      };
    }

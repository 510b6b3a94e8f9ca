-- What is left to prove of `explained_fewest`: its clause, and what the calls that it makes require.
use Rattle.std.proofs.Common.{ℕ, List, ◌++◌, refl, ap, ◌∙◌, inl}
use Rattle.std.specs.Prelude.{All}
use Rattle.attr_sets.specs.Sets.{attributes}
use Rattle.dep_model.specs.Deps.{dependencies_of}
use Rattle.dep_model.specs.Forms.{IsThird}
use Rattle.dep_model.specs.Plans.{schemes_of}
use Rattle.dep_model.specs.Preservation.{KeepsDependencies}
use Rattle.dep_model.specs.Projections.{IsLossless}
use Rattle.plan_printer.specs.Printing.{plan_text}
use Rattle.plans.specs.Plans.{IsPlanOver, plan_of, scheme_sets}
use Rattle.plans.specs.declared.plan.Plan.{Plan}
use Rattle.schema_model.specs.Schemas.{nullable_of, width_of, theory_of, theory_in}
use Rattle.schema_printer.specs.Spelling.{printed_names_of}
use Rattle.fewest_tables.specs.FewestSteps.{AreFewestSteps, groups_in}
use Rattle.fewest_tables.proofs.MadeLemmas.{chosen_has, plan_made}
use Rattle.desk_responses.specs.ResponseValues.{text_only}
use Rattle.desk_responses.specs.declared.status.Status.TheVariants.{Yes}
use Rattle.desk_designs.proofs.FewestMade.{fewest_made}
use Rattle.desk_designs.proofs.fewest_reasons.explained_fewest.Goals as goal
use Rattle.desk_designs.proofs.fewest_reasons.explained_fewest.Goals.{In_ok-steps}

-- the steps, of the schema
steps_are : (c : In_ok-steps) → AreFewestSteps (width_of c.args.schema.now) (theory_of c.args.schema.now) (nullable_of c.args.schema.now) c.in_ok-steps.steps
steps_are c = rw (c.theory-theory.ensures.theory, c.nullable.ensures.nullable) at c.in_ok-steps.ensures.steps

pub merged_plan-requires : goal.merged_plan-requires
merged_plan-requires c = record { steps = (attributes c.nullable.result, c.in_ok-steps.ensures.steps) }

pub plan_of_steps-requires : goal.plan_of_steps-requires
plan_of_steps-requires c =
    let are = c.in_ok-steps.ensures.steps in
    record { steps = (attributes c.nullable.result, are.plain); minimal = are.minimal; within = are.within }

pub print_reasons_of-requires : goal.print_reasons_of-requires
print_reasons_of-requires c = record {
  merged = c.schemes.ensures.schemes ∙ c.in_ok-merged.ensures.left;
  plain = c.schemes-2.ensures.schemes ∙ c.in_ok-plain.ensures.kept;
  lefts = c.in_ok-steps.ensures.steps.lefts;
}

pub print_plan-requires : goal.print_plan-requires
print_plan-requires c = record {
  universe = chosen_has (IsPlanOver (theory_in c.args.schema.now)) c.in_ok-merged.merged c.in_ok-plain.plain c.smaller_plan-plan.result c.smaller_plan-plan.ensures.either
      (rw (c.theory-theory.ensures.theory) at c.in_ok-merged.ensures.universe)
      (rw (c.theory-theory.ensures.theory) at c.in_ok-plain.ensures.universe);
}

pub returns : goal.returns
returns c =
    let s = c.args.schema.now in
    let n = width_of s in
    let ds = theory_of s in
    let nullable = nullable_of s in
    let names = printed_names_of s in
    let steps = c.in_ok-steps.steps in
    let are = steps_are (goal.at.returns c).In_ok-steps in
    let merged = c.in_ok-merged.merged in
    let plain = c.in_ok-plain.plain in
    let chosen = c.smaller_plan-plan.result in
    let either = c.smaller_plan-plan.ensures.either in
    let plan = scheme_sets chosen in
    let reasons = c.in_ok-text.text.items in
    let printed = plan_text names (schemes_of plan) in
    let is_grouped = (rw (c.theory-theory.ensures.theory) at c.in_ok-plain.ensures.grouped) nullable are.plain in
    let made = plan_made n ds nullable steps (scheme_sets merged) (scheme_sets plain) plan are c.in_ok-merged.ensures.left is_grouped c.smaller_plan-plan.ensures.chosen in
    let lossless = chosen_has (λ (p : Plan). IsLossless n ds (plan_of p)) merged plain chosen either
    (rw (c.theory-theory.ensures.theory) at c.in_ok-merged.ensures.lossless) (rw (c.theory-theory.ensures.theory) at c.in_ok-plain.ensures.lossless) in
    let third = chosen_has (λ (p : Plan). All (IsThird n ds) (plan_of p)) merged plain chosen either
    (rw (c.theory-theory.ensures.theory) at c.in_ok-merged.ensures.third) (rw (c.theory-theory.ensures.theory) at c.in_ok-plain.ensures.third) in
    let keeps = chosen_has (λ (p : Plan). KeepsDependencies n ds (plan_of p)) merged plain chosen either
    (rw (c.theory-theory.ensures.theory) at c.in_ok-merged.ensures.keeps) (rw (c.theory-theory.ensures.theory) at c.in_ok-plain.ensures.keeps) in
    record {
      response = (
        text_only Yes printed,
        (plan, fewest_made s plan made lossless third keeps, refl),
        inl (
          refl,
          (
            reasons,
            record {
              cover = dependencies_of steps.plain.cover.items;
              groups = groups_in steps.groups;
              kept = dependencies_of steps.kept.items;
              all = steps.schemes.items;
              steps = are.merged;
              grouped = steps.plain.schemes.items;
              plain = are.plain;
              reads = c.in_ok-text.ensures.text;
            },
            c.with_text.ensures.says
                ∙ ap (text_only Yes) (c.in_ok-add.ensures.added
                ∙ ap (λ (t : List ℕ). reasons ++ t) c.deref.ensures.value
                ∙ ap (λ (t : List ℕ). reasons ++ t) c.in_ok-printed.ensures.text),
          ),
        ),
      );
    }

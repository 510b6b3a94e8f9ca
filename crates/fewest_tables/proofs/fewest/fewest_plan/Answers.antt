-- What is left to prove of `fewest_plan`: its clauses, and what the calls that it makes require.
use Rattle.std.specs.Prelude.{All}
use Rattle.attr_sets.specs.Sets.{attributes}
use Rattle.dep_model.specs.Forms.{IsThird}
use Rattle.dep_model.specs.Preservation.{KeepsDependencies}
use Rattle.dep_model.specs.Projections.{IsLossless}
use Rattle.dep_model.specs.Theories.{width_of, theory_of}
use Rattle.plans.specs.Plans.{scheme_sets, plan_of, IsPlanOver}
use Rattle.plans.specs.declared.plan.Plan.{Plan}
use Rattle.fewest_tables.proofs.MadeLemmas.{chosen_has, plan_fewest, plan_made}
use Rattle.fewest_tables.proofs.fewest.fewest_plan.Goals as goal

pub merged_plan-requires : goal.merged_plan-requires
merged_plan-requires c = record { steps = (attributes c.args.nullable, c.in_ok-steps.ensures.steps) }

pub plan_of_steps-requires : goal.plan_of_steps-requires
plan_of_steps-requires c =
    let are = c.in_ok-steps.ensures.steps in
    record { steps = (attributes c.args.nullable, are.plain); minimal = are.minimal; within = are.within }

pub returns-clause-universe : goal.returns-clause-universe
returns-clause-universe c =
    chosen_has (IsPlanOver c.args.theory.now) c.in_ok-merged.merged c.in_ok-plain.plain c.smaller_plan.result c.smaller_plan.ensures.either
    c.in_ok-merged.ensures.universe c.in_ok-plain.ensures.universe

pub returns-clause-made : goal.returns-clause-made
returns-clause-made c =
    let s = c.args.theory.now in
    let nullable = attributes c.args.nullable in
    let are = c.in_ok-steps.ensures.steps in
    plan_made (width_of s) (theory_of s) nullable c.in_ok-steps.steps (scheme_sets c.in_ok-merged.merged) (scheme_sets c.in_ok-plain.plain) (scheme_sets c.smaller_plan.result) are
    c.in_ok-merged.ensures.left (c.in_ok-plain.ensures.grouped nullable are.plain) c.smaller_plan.ensures.chosen

pub returns-clause-lossless : goal.returns-clause-lossless
returns-clause-lossless c =
    let s = c.args.theory.now in
    chosen_has (λ (plan : Plan). IsLossless (width_of s) (theory_of s) (plan_of plan)) c.in_ok-merged.merged c.in_ok-plain.plain c.smaller_plan.result c.smaller_plan.ensures.either
    c.in_ok-merged.ensures.lossless c.in_ok-plain.ensures.lossless

pub returns-clause-third : goal.returns-clause-third
returns-clause-third c =
    let s = c.args.theory.now in
    chosen_has (λ (plan : Plan). All (IsThird (width_of s) (theory_of s)) (plan_of plan)) c.in_ok-merged.merged c.in_ok-plain.plain c.smaller_plan.result c.smaller_plan.ensures.either
    c.in_ok-merged.ensures.third c.in_ok-plain.ensures.third

pub returns-clause-keeps : goal.returns-clause-keeps
returns-clause-keeps c =
    let s = c.args.theory.now in
    chosen_has (λ (plan : Plan). KeepsDependencies (width_of s) (theory_of s) (plan_of plan)) c.in_ok-merged.merged c.in_ok-plain.plain c.smaller_plan.result c.smaller_plan.ensures.either
    c.in_ok-merged.ensures.keeps c.in_ok-plain.ensures.keeps

pub returns-clause-fewest : goal.returns-clause-fewest
returns-clause-fewest c is = plan_fewest c.args.theory.now (attributes c.args.nullable) (scheme_sets c.smaller_plan.result) is

-- What is left to prove of `script_migration`: its clause `response`.
use Rattle.std.proofs.Common.{[], inl, inr}
use Rattle.plans.specs.Plans.{scheme_sets}
use Rattle.desk_designs.proofs.MissingLemmas.{readable_plan}
use Rattle.desk_scripts.proofs.scripts.script_migration.Goals as goal

pub returns-in-Err-plan_in_form : goal.returns-in-Err-plan_in_form
returns-in-Err-plan_in_form c = record {
  response = λ response is. inr (c.in-Ok.ensures.ok, inl (c.in-Err-plan_in_form.ensures.exit response is));
}

pub returns-in-Err-required_design : goal.returns-in-Err-required_design
returns-in-Err-required_design c =
    let plan = c.in-Ok-plan_in_form in
    record {
      response = λ response is. inr (
        c.in-Ok.ensures.ok,
        inr (scheme_sets plan.plan, plan.ensures.ok, inl (c.in-Err-required_design.ensures.exit response is)),
      );
    }

pub returns : goal.returns
returns c =
    let plan = c.in-Ok-plan_in_form in
    let tables = c.in-Ok-required_design in
    let sets = scheme_sets plan.plan in
    let readable = readable_plan c.args.schema.now [] sets tables.tables tables.ensures.sound tables.ensures.unhindered in
    record {
      response = inr (
        c.in-Ok.ensures.ok,
        inr (
          sets,
          plan.ensures.ok,
          inr (readable, (tables.tables, tables.ensures.sound, c.in_ok-statements_response.ensures.response)),
        ),
      );
    }

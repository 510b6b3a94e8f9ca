-- What is left to prove of `script_migration_by_plan`: its clause `response`.
use Rattle.std.proofs.Common.{inl, inr, refl}
use Rattle.plans.specs.Plans.{scheme_sets}
use Rattle.desk_designs.proofs.MissingLemmas.{readable_plan}
use Rattle.desk_scripts.proofs.scripts.script_migration_by_plan.Goals as goal

pub returns-in-Err-test_other_name : goal.returns-in-Err-test_other_name
returns-in-Err-test_other_name c = record {
  response = λ response is. inr (c.in-Ok.ensures.ok, inl (c.in-Err-test_other_name.ensures.exit response is));
}

pub returns-in-Err-required_design : goal.returns-in-Err-required_design
returns-in-Err-required_design c = record {
  response = λ response is. inr (c.in-Ok.ensures.ok, inr (c.in-Ok-test_other_name.ensures.ok, inl (c.in-Err-required_design.ensures.exit response is)));
}

pub returns-in-Err-test_loss : goal.returns-in-Err-test_loss
returns-in-Err-test_loss c =
    let tables = c.in-Ok-required_design in
    let sets = scheme_sets c.args.plan.now in
    let readable = readable_plan c.args.schema.now c.args.names.now sets tables.tables tables.ensures.sound tables.ensures.unhindered in
    record {
      response = λ response is. inr (c.in-Ok.ensures.ok, inr (c.in-Ok-test_other_name.ensures.ok, inr (readable, inl (c.in-Err-test_loss.ensures.exit response is))));
    }

pub returns : goal.returns
returns c =
    let tables = c.in-Ok-required_design in
    let sets = scheme_sets c.args.plan.now in
    let readable = readable_plan c.args.schema.now c.args.names.now sets tables.tables tables.ensures.sound tables.ensures.unhindered in
    record {
      response = inr (
        c.in-Ok.ensures.ok,
        inr (
          c.in-Ok-test_other_name.ensures.ok,
          inr (
            readable,
            inr (
              c.in-Ok-test_loss.ensures.ok,
              (sets, refl, (tables.tables, tables.ensures.sound, c.in_ok-statements_response.ensures.response)),
            ),
          ),
        ),
      );
    }

-- What is left to prove of `write_plan`: its clause `response`, where something is lost and where nothing is.
use Rattle.std.proofs.Common.{inl, inr, refl}
use Rattle.plans.specs.Plans.{scheme_sets}
use Rattle.desk_designs.proofs.MissingLemmas.{readable_plan}
use Rattle.desk_designs.proofs.designs.write_plan.Goals as goal

pub returns-in-Err-test_loss : goal.returns-in-Err-test_loss
returns-in-Err-test_loss c =
    let tables = c.in-Ok in
    let sets = scheme_sets c.args.plan.now in
    let never = readable_plan c.args.schema.now c.args.names.now sets tables.tables tables.ensures.sound tables.ensures.unhindered in
    record { response = λ response is. inr (never, inl (c.in-Err-test_loss.ensures.exit response is)) }

pub returns : goal.returns
returns c =
    let tables = c.in-Ok in
    let sets = scheme_sets c.args.plan.now in
    let never = readable_plan c.args.schema.now c.args.names.now sets tables.tables tables.ensures.sound tables.ensures.unhindered in
    record {
      response = inr (
        never,
        inr (
          c.in-Ok-test_loss.ensures.ok,
          (sets, refl, (tables.tables, tables.ensures.sound, c.in_ok-tables_response.ensures.response)),
        ),
      );
    }

-- What is left to prove of `test_missing`: its clause `ok`.
use Rattle.plans.specs.Plans.{scheme_sets}
use Rattle.desk_designs.proofs.MissingLemmas.{readable_plan}
use Rattle.desk_designs.proofs.missing.test_missing.Goals as goal

pub returns-in-Ok-clause-ok : goal.returns-in-Ok-clause-ok
returns-in-Ok-clause-ok c =
    readable_plan c.args.schema.now c.args.names.now (scheme_sets c.args.plan.now) c.in-Ok.field-0 c.in-Ok.ensures.sound c.in-Ok.ensures.unhindered

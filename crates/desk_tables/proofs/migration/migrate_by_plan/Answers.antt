-- What is left to prove of `migrate_by_plan`: its clause `response` and what `migrate_rows` requires.
use Rattle.plans.specs.Plans.{plan_of}
use Rattle.desk_designs.specs.Joins.{IsShownLossless, LossStops}
use Rattle.desk_tables.specs.Migrations.{MigratesRows}
use Rattle.desk_responses.proofs.StepLemmas.{Unless-passed}
use Rattle.desk_tables.proofs.migration.migrate_by_plan.Goals as goal

pub migrate_rows-requires-clause-lossless : goal.migrate_rows-requires-clause-lossless
migrate_rows-requires-clause-lossless c = c.in-Ok.ensures.ok.lossless

pub returns : goal.returns
returns c =
    let s = c.args.schema.now in
    let plan = plan_of c.args.plan.now in
    record {
      response = Unless-passed (LossStops s plan) (IsShownLossless s plan) (MigratesRows s c.args.names.now plan c.args.rows) c.migrate_rows.result
          c.in-Ok.ensures.ok c.migrate_rows.ensures.response;
    }

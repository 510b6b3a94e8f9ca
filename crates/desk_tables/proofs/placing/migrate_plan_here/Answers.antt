-- What is left to prove of `migrate_plan_here`: its clause `response`, where a file ends the command and where none
-- does.
use Rattle.std.proofs.Common.{inl, inr, [], ◌∷◌, length}
use Rattle.plans.specs.Plans.{plan_of}
use Rattle.desk_designs.specs.Designs.{AreReadable, MissingStops}
use Rattle.desk_responses.proofs.StepLemmas.{Unless-passed}
use Rattle.desk_tables.specs.Migrations.{MigratesPlan}
use Rattle.desk_tables.specs.Overwriting.{KeepsFiles}
use Rattle.desk_tables.proofs.OverwritingLemmas.{file_kept}
use Rattle.desk_tables.proofs.placing.migrate_plan_here.Goals as goal

pub returns-in-Err-test_file : goal.returns-in-Err-test_file
returns-in-Err-test_file c = record {
  response = λ response e. inr (c.in-Ok.ensures.ok, inl (c.in-Err-test_file.ensures.exit response e));
}

pub returns-in-Err-test_file-2 : goal.returns-in-Err-test_file-2
returns-in-Err-test_file-2 c = record {
  response = λ response e. inr (c.in-Ok.ensures.ok, inr (c.in-Ok-test_file.ensures.ok, inl (c.in-Err-test_file-2.ensures.exit response e)));
}

pub returns-in-Err-test_file-3 : goal.returns-in-Err-test_file-3
returns-in-Err-test_file-3 c = record {
  response = λ response e. inr (
    c.in-Ok.ensures.ok,
    inr (
      c.in-Ok-test_file.ensures.ok,
      inr (c.in-Ok-test_file-2.ensures.ok, inl (c.in-Err-test_file-3.ensures.exit response e)),
    ),
  );
}

pub returns : goal.returns
returns c =
    let s = c.args.schema.now in
    let names = c.args.names.now in
    let plan = plan_of c.args.plan.now in
    let tables = length plan in
    let rest = MigratesPlan s names plan c.args.rows in
    let result = c.migrate_by_plan.result in
    let plan_and_rows = c.args.plan_file.now ∷ c.args.rows_file.now ∷ [] in
    record {
      response = Unless-passed (MissingStops s names plan) (AreReadable s names plan) (KeepsFiles names tables (c.args.schema_file.now ∷ plan_and_rows) rest) result c.in-Ok.ensures.ok
          (file_kept names tables c.args.schema_file.now plan_and_rows rest result c.in-Ok-test_file.ensures.ok
          (file_kept names tables c.args.plan_file.now (c.args.rows_file.now ∷ []) rest result c.in-Ok-test_file-2.ensures.ok
          (file_kept names tables c.args.rows_file.now [] rest result c.in-Ok-test_file-3.ensures.ok c.migrate_by_plan.ensures.response)));
    }

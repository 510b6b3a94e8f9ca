-- What is left to prove of `migrate_form_here`: its clause `response`, where a file ends the command and where none
-- does.
use Rattle.std.proofs.Common.{inl, inr, [], ◌∷◌, List, length}
use Rattle.attr_sets.specs.declared.set.AttrSet.{AttrSet}
use Rattle.plans.specs.Plans.{scheme_sets}
use Rattle.dep_model.specs.Plans.{schemes_of}
use Rattle.desk_designs.specs.Decompositions.{FormStops, IsPlanInForm}
use Rattle.desk_designs.specs.Designs.{AreReadable, MissingStops, WithoutMissing}
use Rattle.desk_tables.specs.Migrations.{MigratesRows}
use Rattle.desk_tables.specs.Overwriting.{KeepsFiles}
use Rattle.desk_responses.proofs.StepLemmas.{Unless-passed, With-found}
use Rattle.desk_tables.proofs.OverwritingLemmas.{file_kept}
use Rattle.desk_tables.proofs.placing.migrate_form_here.Goals as goal

pub returns-in-Err-test_missing : goal.returns-in-Err-test_missing
returns-in-Err-test_missing c = record {
  response = λ response e. inr (
    scheme_sets c.in-Ok.plan,
    c.in-Ok.ensures.ok,
    inl (c.in-Err-test_missing.ensures.exit response e),
  );
}

pub returns-in-Err-test_file : goal.returns-in-Err-test_file
returns-in-Err-test_file c = record {
  response = λ response e. inr (
    scheme_sets c.in-Ok.plan,
    c.in-Ok.ensures.ok,
    inr (c.in-Ok-test_missing.ensures.ok, inl (c.in-Err-test_file.ensures.exit response e)),
  );
}

pub returns-in-Err-test_file-2 : goal.returns-in-Err-test_file-2
returns-in-Err-test_file-2 c = record {
  response = λ response e. inr (
    scheme_sets c.in-Ok.plan,
    c.in-Ok.ensures.ok,
    inr (
      c.in-Ok-test_missing.ensures.ok,
      inr (c.in-Ok-test_file.ensures.ok, inl (c.in-Err-test_file-2.ensures.exit response e)),
    ),
  );
}

pub returns : goal.returns
returns c =
    let s = c.args.schema.now in
    let form = c.args.form in
    let plan = schemes_of (scheme_sets c.in-Ok.plan) in
    let tables = length plan in
    let rest = MigratesRows s [] plan c.args.rows in
    let result = c.migrate_rows.result in
    let files = c.args.schema_file.now ∷ c.args.rows_file.now ∷ [] in
    record {
      response = With-found (FormStops s form) (IsPlanInForm s form)
          (λ (sets : List AttrSet). WithoutMissing s [] (schemes_of sets) (KeepsFiles [] (length (schemes_of sets)) files (MigratesRows s [] (schemes_of sets) c.args.rows)))
          (scheme_sets c.in-Ok.plan) result c.in-Ok.ensures.ok
          (Unless-passed (MissingStops s [] plan) (AreReadable s [] plan) (KeepsFiles [] tables files rest) result c.in-Ok-test_missing.ensures.ok
          (file_kept [] tables c.args.schema_file.now (c.args.rows_file.now ∷ []) rest result c.in-Ok-test_file.ensures.ok
          (file_kept [] tables c.args.rows_file.now [] rest result c.in-Ok-test_file-2.ensures.ok c.migrate_rows.ensures.response)));
    }

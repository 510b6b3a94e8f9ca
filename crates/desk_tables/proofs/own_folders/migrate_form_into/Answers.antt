-- What is left to prove of `migrate_form_into`: its clause `response`, where the design or the folder ends the command
-- and where none does.
use Rattle.std.proofs.Common.{List, [], inl, inr, true, refl}
use Rattle.std.specs.Prelude.{IsTrue}
use Rattle.attr_sets.specs.declared.set.AttrSet.{AttrSet}
use Rattle.dep_model.specs.Plans.{schemes_of}
use Rattle.plans.specs.Plans.{scheme_sets}
use Rattle.desk_designs.specs.Decompositions.{FormStops, IsPlanInForm}
use Rattle.desk_designs.specs.Designs.{AreReadable, MissingStops, WithoutMissing}
use Rattle.desk_responses.proofs.StepLemmas.{Unless-passed, With-found}
use Rattle.desk_responses.specs.ResponseValues.{Unless}
use Rattle.desk_tables.specs.OwnFolders.{FolderStops, MigratesRowsInto}
use Rattle.desk_tables.proofs.OwnFolderLemmas.{is_free}
use Rattle.desk_tables.proofs.own_folders.migrate_form_into.Goals as goal

pub returns-in-Err : goal.returns-in-Err
returns-in-Err c = record { response = λ looks look response e. inl (c.in-Err.ensures.exit response e) }

pub returns-in-Err-required_design : goal.returns-in-Err-required_design
returns-in-Err-required_design c = record {
  response = λ looks look response e. inr (
    scheme_sets c.in-Ok.plan,
    c.in-Ok.ensures.ok,
    inl (c.in-Err-required_design.ensures.exit response e),
  );
}

pub returns-in-Err-test_folder : goal.returns-in-Err-test_folder
returns-in-Err-test_folder c =
    let s = c.args.schema.now in
    let sets = scheme_sets c.in-Ok.plan in
    let never : AreReadable s [] (schemes_of sets) = (
      c.in-Ok-required_design.tables,
      record { plan = sets; same = refl; sound = c.in-Ok-required_design.ensures.sound },
      c.in-Ok-required_design.ensures.unhindered,
    ) in
    record {
      response = λ looks look response e. inr (
        sets,
        c.in-Ok.ensures.ok,
        inr (never, inl (c.in-Err-test_folder.ensures.exit looks look response e)),
      );
    }

pub returns : goal.returns
returns c =
    let s = c.args.schema.now in
    let form = c.args.form in
    let folder = c.args.folder.now in
    let rows = c.args.rows in
    let sets = scheme_sets c.in-Ok.plan in
    let result = c.migrate_rows_into.result in
    let never : AreReadable s [] (schemes_of sets) = (
      c.in-Ok-required_design.tables,
      record { plan = sets; same = refl; sound = c.in-Ok-required_design.ensures.sound },
      c.in-Ok-required_design.ensures.unhindered,
    ) in
    record {
      response = λ looks look.
          let free = is_free looks folder c.args.is_free c.in-Ok-test_folder.ensures.ok look in
          let rest = Unless (FolderStops looks folder) (IsTrue (looks folder true)) (MigratesRowsInto s [] sets folder rows) in
          With-found (FormStops s form) (IsPlanInForm s form)
          (λ (plan : List AttrSet). WithoutMissing s [] (schemes_of plan) (Unless (FolderStops looks folder) (IsTrue (looks folder true)) (MigratesRowsInto s [] plan folder rows)))
          sets result c.in-Ok.ensures.ok
          (Unless-passed (MissingStops s [] (schemes_of sets)) (AreReadable s [] (schemes_of sets)) rest result never
          (Unless-passed (FolderStops looks folder) (IsTrue (looks folder true)) (MigratesRowsInto s [] sets folder rows) result free c.migrate_rows_into.ensures.response));
    }

-- What is left to prove of `migrate_plan_into`: its clause `response`, where the design, the folder or the test of the
-- plan ends the command and where none does, and what `migrate_rows_into` requires.
use Rattle.std.proofs.Common.{inl, inr, true, refl}
use Rattle.std.specs.Prelude.{IsTrue}
use Rattle.plans.specs.Plans.{plan_of, scheme_sets}
use Rattle.desk_designs.specs.Designs.{AreReadable, MissingStops}
use Rattle.desk_designs.specs.Joins.{IsShownLossless, LossStops, WithoutLoss}
use Rattle.desk_responses.proofs.StepLemmas.{Unless-passed}
use Rattle.desk_responses.specs.ResponseValues.{Unless}
use Rattle.desk_tables.specs.OwnFolders.{FolderStops, MigratesSchemesInto}
use Rattle.desk_tables.proofs.OwnFolderLemmas.{is_free, of_schemes}
use Rattle.desk_tables.proofs.own_folders.migrate_plan_into.Goals as goal

pub migrate_rows_into-requires-clause-lossless : goal.migrate_rows_into-requires-clause-lossless
migrate_rows_into-requires-clause-lossless c = c.in-Ok-test_loss.ensures.ok.lossless

pub returns-in-Err : goal.returns-in-Err
returns-in-Err c = record { response = λ looks look response e. inl (c.in-Err.ensures.exit response e) }

pub returns-in-Err-test_folder : goal.returns-in-Err-test_folder
returns-in-Err-test_folder c =
    let never : AreReadable c.args.schema.now c.args.names.now (plan_of c.args.plan.now) = (
      c.in-Ok.tables,
      record { plan = scheme_sets c.args.plan.now; same = refl; sound = c.in-Ok.ensures.sound },
      c.in-Ok.ensures.unhindered,
    ) in
    record { response = λ looks look response e. inr (never, inl (c.in-Err-test_folder.ensures.exit looks look response e)) }

pub returns-in-Err-test_loss : goal.returns-in-Err-test_loss
returns-in-Err-test_loss c =
    let never : AreReadable c.args.schema.now c.args.names.now (plan_of c.args.plan.now) = (
      c.in-Ok.tables,
      record { plan = scheme_sets c.args.plan.now; same = refl; sound = c.in-Ok.ensures.sound },
      c.in-Ok.ensures.unhindered,
    ) in
    record {
      response = λ looks look response e. inr (
        never,
        inr (
          is_free looks c.args.folder.now c.args.is_free c.in-Ok-test_folder.ensures.ok look,
          inl (c.in-Err-test_loss.ensures.exit response e),
        ),
      );
    }

pub returns : goal.returns
returns c =
    let s = c.args.schema.now in
    let folder = c.args.folder.now in
    let rows = c.args.rows in
    let sets = scheme_sets c.args.plan.now in
    let plan = plan_of c.args.plan.now in
    let result = c.migrate_rows_into.result in
    let rest = MigratesSchemesInto s c.args.names.now plan folder rows in
    let never : AreReadable s c.args.names.now plan = (
      c.in-Ok.tables,
      record { plan = sets; same = refl; sound = c.in-Ok.ensures.sound },
      c.in-Ok.ensures.unhindered,
    ) in
    record {
      response = λ looks look.
          let free = is_free looks folder c.args.is_free c.in-Ok-test_folder.ensures.ok look in
          let lossless = WithoutLoss s plan rest in
          Unless-passed (MissingStops s c.args.names.now plan) (AreReadable s c.args.names.now plan) (Unless (FolderStops looks folder) (IsTrue (looks folder true)) lossless) result never
          (Unless-passed (FolderStops looks folder) (IsTrue (looks folder true)) lossless result free
          (Unless-passed (LossStops s plan) (IsShownLossless s plan) rest result c.in-Ok-test_loss.ensures.ok
          (of_schemes s c.args.names.now sets folder rows result c.migrate_rows_into.ensures.response)));
    }

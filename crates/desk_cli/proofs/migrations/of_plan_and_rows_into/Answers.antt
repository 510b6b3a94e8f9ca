-- What is left to prove of `of_plan_and_rows_into`: its clause `reads`.
use Rattle.std.proofs.Common.{ℕ, List, [], ◌∷◌, Err, subst, Option}
use Rattle.std.specs.Prelude.{IsTrue}
use Rattle.plan_printer.specs.NamedPlans.{NamedSchemes, named_schemes}
use Rattle.desk_tables.specs.OwnFolders.{MigratesPlanInto}
use Rattle.desk_outside.specs.FreeNames.{may_be_free}
use Rattle.desk_inputs.specs.FileKinds.{WithFile}
use Rattle.desk_inputs.specs.Readings.{Reading}
use Rattle.desk_inputs.specs.Rows.{rows_file}
use Rattle.desk_responses.specs.Responses.{RespondsAs}
use Rattle.desk_inputs.proofs.CallLemmas.{not_opened, opened, opened_then, stopped}
use Rattle.desk_cli.proofs.migrations.of_plan_and_rows_into.Goals as goal

pub returns-in-Err : goal.returns-in-Err
returns-in-Err g c =
    let s = c.args.schema.now in
    let looks = may_be_free (g.G.Folder.state c.args.place.now).contents in
    record {
      reads = stopped (c.args.file.now ∷ [])
          (λ (r : Reading) (plan : NamedSchemes). WithFile (rows_file s) r c.args.file.now (MigratesPlanInto looks s plan.names plan.schemes c.args.folder.now)) c.in-Err.ensures.opens;
    }

pub returns-in-Err-open_rows : goal.returns-in-Err-open_rows
returns-in-Err-open_rows g c =
    let s = c.args.schema.now in
    let looks = may_be_free (g.G.Folder.state c.args.place.now).contents in
    let plan = named_schemes c.in-Ok.plan in
    record {
      reads = opened_then
          (λ (r : Reading) (plan : NamedSchemes). WithFile (rows_file s) r c.args.file.now (MigratesPlanInto looks s plan.names plan.schemes c.args.folder.now))
          (Err c.in-Err-open_rows.exit) c.in-Ok.ensures.opens
          (not_opened (λ (r : Reading). MigratesPlanInto looks s plan.names plan.schemes c.args.folder.now) c.in-Err-open_rows.ensures.opens);
    }

pub returns : goal.returns
returns g c =
    let s = c.args.schema.now in
    let plan = named_schemes c.in-Ok.plan in
    let result = c.migrate_plan_into.result in
    let looks = may_be_free (g.G.Folder.state c.args.place.now).contents in
    let seen = subst (λ (name : List ℕ). IsTrue (looks name c.is_free-is_free.result)) c.bytes.ensures.bytes c.is_free-is_free.ensures.free in
    let response : RespondsAs (MigratesPlanInto looks s plan.names plan.schemes c.args.folder.now c.in-Ok-open_rows.rows) result =
    subst (λ (names : List (Option (List ℕ))). RespondsAs (MigratesPlanInto looks s names plan.schemes c.args.folder.now c.in-Ok-open_rows.rows) result)
    c.deref.ensures.value (c.migrate_plan_into.ensures.response looks seen) in
    record {
      reads = opened_then
          (λ (r : Reading) (plan : NamedSchemes). WithFile (rows_file s) r c.args.file.now (MigratesPlanInto looks s plan.names plan.schemes c.args.folder.now))
          result c.in-Ok.ensures.opens (opened (MigratesPlanInto looks s plan.names plan.schemes c.args.folder.now) result c.in-Ok-open_rows.ensures.opens response);
    }

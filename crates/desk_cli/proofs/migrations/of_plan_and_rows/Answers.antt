-- What is left to prove of `of_plan_and_rows`: its clause `reads`.
use Rattle.std.proofs.Common.{ℕ, List, [], ◌∷◌, Err, subst, Option}
use Rattle.plan_printer.specs.NamedPlans.{NamedSchemes, named_schemes}
use Rattle.desk_tables.specs.Overwriting.{MigratesPlanHere}
use Rattle.desk_inputs.specs.FileKinds.{WithFile}
use Rattle.desk_inputs.specs.Readings.{Reading}
use Rattle.desk_inputs.specs.Rows.{rows_file}
use Rattle.desk_responses.specs.Responses.{RespondsAs}
use Rattle.desk_inputs.proofs.CallLemmas.{not_opened, opened, opened_then, stopped}
use Rattle.desk_cli.proofs.migrations.of_plan_and_rows.Goals as goal

pub returns-in-Err : goal.returns-in-Err
returns-in-Err g c =
    let s = c.args.schema.now in
    let read = c.args.own.now ∷ c.args.planned.now ∷ c.args.file.now ∷ [] in
    record {
      reads = stopped (c.args.file.now ∷ [])
          (λ (r : Reading) (plan : NamedSchemes). WithFile (rows_file s) r c.args.file.now (MigratesPlanHere s plan.names plan.schemes read)) c.in-Err.ensures.opens;
    }

pub returns-in-Err-open_rows : goal.returns-in-Err-open_rows
returns-in-Err-open_rows g c =
    let s = c.args.schema.now in
    let plan = named_schemes c.in-Ok.plan in
    let read = c.args.own.now ∷ c.args.planned.now ∷ c.args.file.now ∷ [] in
    record {
      reads = opened_then
          (λ (r : Reading) (plan : NamedSchemes). WithFile (rows_file s) r c.args.file.now (MigratesPlanHere s plan.names plan.schemes read))
          (Err c.in-Err-open_rows.exit) c.in-Ok.ensures.opens
          (not_opened (λ (r : Reading). MigratesPlanHere s plan.names plan.schemes read) c.in-Err-open_rows.ensures.opens);
    }

pub returns : goal.returns
returns g c =
    let s = c.args.schema.now in
    let file = c.args.file.now in
    let read = c.args.own.now ∷ c.args.planned.now ∷ file ∷ [] in
    let plan = named_schemes c.in-Ok.plan in
    let rows = c.in-Ok-open_rows.rows in
    let result = c.migrate_plan_here.result in
    let Answers : List ℕ → List ℕ → List ℕ → Type 0 =
    (λ a b d. RespondsAs (MigratesPlanHere s plan.names plan.schemes (a ∷ b ∷ d ∷ []) rows) result) in
    let response : Answers c.args.own.now c.args.planned.now file =
    subst (λ (a : List ℕ). Answers a c.args.planned.now file) c.bytes.ensures.bytes
    (subst (λ (b : List ℕ). Answers c.bytes.result.now b file) c.bytes-2.ensures.bytes
    (subst (λ (d : List ℕ). Answers c.bytes.result.now c.bytes-2.result.now d) c.bytes-3.ensures.bytes
    (subst (λ (names : List (Option (List ℕ))). RespondsAs (MigratesPlanHere s names plan.schemes (c.bytes.result.now ∷ c.bytes-2.result.now ∷ c.bytes-3.result.now ∷ []) rows) result)
    c.deref.ensures.value c.migrate_plan_here.ensures.response))) in
    record {
      reads = opened_then (λ (r : Reading) (plan : NamedSchemes). WithFile (rows_file s) r file (MigratesPlanHere s plan.names plan.schemes read))
          result c.in-Ok.ensures.opens (opened (MigratesPlanHere s plan.names plan.schemes read) result c.in-Ok-open_rows.ensures.opens response);
    }

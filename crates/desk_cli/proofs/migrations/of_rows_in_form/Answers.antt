-- What is left to prove of `of_rows_in_form`: its clause `reads`.
use Rattle.std.proofs.Common.{ℕ, List, [], ◌∷◌, subst}
use Rattle.desk_tables.specs.Overwriting.{MigratesHere}
use Rattle.desk_responses.specs.Responses.{RespondsAs}
use Rattle.desk_inputs.specs.Readings.{Reading}
use Rattle.desk_inputs.proofs.CallLemmas.{not_opened, opened}
use Rattle.desk_cli.proofs.migrations.of_rows_in_form.Goals as goal

pub returns-in-Err : goal.returns-in-Err
returns-in-Err g c = record { reads = not_opened (λ (r : Reading). MigratesHere c.args.schema.now c.args.form (c.args.own.now ∷ c.args.file.now ∷ [])) c.in-Err.ensures.opens }

pub returns : goal.returns
returns g c =
    let s = c.args.schema.now in
    let file = c.args.file.now in
    let form = c.args.form in
    let rows = c.in-Ok.rows in
    let result = c.migrate_form_here.result in
    let response : RespondsAs (MigratesHere s form (c.args.own.now ∷ file ∷ []) rows) result =
    subst (λ (a : List ℕ). RespondsAs (MigratesHere s form (a ∷ file ∷ []) rows) result) c.bytes.ensures.bytes
    (subst (λ (b : List ℕ). RespondsAs (MigratesHere s form (c.bytes.result.now ∷ b ∷ []) rows) result)
    c.bytes-2.ensures.bytes c.migrate_form_here.ensures.response) in
    record { reads = opened (MigratesHere s form (c.args.own.now ∷ file ∷ [])) result c.in-Ok.ensures.opens response }

-- What is left to prove of `of_rows_into`: its clause `reads`.
use Rattle.std.proofs.Common.{ℕ, List, subst}
use Rattle.std.specs.Prelude.{IsTrue}
use Rattle.desk_tables.specs.OwnFolders.{MigratesInto}
use Rattle.desk_outside.specs.FreeNames.{may_be_free}
use Rattle.desk_inputs.specs.Readings.{Reading}
use Rattle.desk_inputs.proofs.CallLemmas.{not_opened, opened}
use Rattle.desk_cli.proofs.migrations.of_rows_into.Goals as goal

pub returns-in-Err : goal.returns-in-Err
returns-in-Err g c = record { reads = not_opened (λ (r : Reading). MigratesInto (may_be_free (g.G.Folder.state c.args.place.now).contents) c.args.schema.now c.args.form c.args.folder.now) c.in-Err.ensures.opens }

pub returns : goal.returns
returns g c =
    let looks = may_be_free (g.G.Folder.state c.args.place.now).contents in
    let seen = subst (λ (name : List ℕ). IsTrue (looks name c.is_free-is_free.result)) c.bytes.ensures.bytes c.is_free-is_free.ensures.free in
    record {
      reads = opened (MigratesInto looks c.args.schema.now c.args.form c.args.folder.now) c.migrate_form_into.result c.in-Ok.ensures.opens
          (c.migrate_form_into.ensures.response looks seen);
    }

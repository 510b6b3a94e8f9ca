-- What is left to prove of `write_table_file`: its clause `writes`, by how far it came.
use Rattle.std.proofs.Common.{ℕ, List, ◌∙◌, subst}
use Rattle.std.specs.Prelude.{Err}
use Rattle.desk_outside.specs.Folders.{BeginsName}
use Rattle.named_tables.specs.Tables.{chosen_value}
use Rattle.destinations.specs.Formats.{table_file}
use Rattle.destinations.proofs.FileLemmas.{Begins, file_ended, file_given_up, file_not_begun, file_not_tried}
use Rattle.table_writing.proofs.files.write_table_file.Goals as goal

pub returns-in-Err : goal.returns-in-Err
returns-in-Err g c = record {
  writes = file_not_tried (table_file c.args.front.now c.args.format (chosen_value c.args.rows.now c.args.table.now)) (g.F.Folder.state c.args.folder.now);
}

pub returns-in-Err-begin : goal.returns-in-Err-begin
returns-in-Err-begin g c =
    let state = g.F.Folder.state in
    record {
      writes = file_not_begun (table_file c.args.front.now c.args.format (chosen_value c.args.rows.now c.args.table.now)) (state c.args.folder.now)
          (state c.begin.new.self) _ c.in-Err-begin.ensures.closed c.in-Err-begin.ensures.is_open
          (subst (λ (name : List ℕ). BeginsName {T = Unit {0}} name (state c.args.folder.now).begun (state c.begin.new.self).begun (Err c.in-Err-begin.fault))
          (c.deref.ensures.value ∙ c.in-Ok.ensures.name) c.in-Err-begin.ensures.begins)
          c.in-Err-begin.ensures.cause;
    }

pub returns-in-Ok-write_table : goal.returns-in-Ok-write_table
returns-in-Ok-write_table g c =
    let state = g.F.Folder.state in
    record {
      writes = file_ended (table_file c.args.front.now c.args.format (chosen_value c.args.rows.now c.args.table.now)) (state c.args.folder.now)
          (state c.begin.new.self) (state c.write_table.new.folder) (state c.end.new.self) tt c.end.result
          (subst (λ (name : List ℕ). Begins name (state c.args.folder.now) (state c.begin.new.self)) (c.deref.ensures.value ∙ c.in-Ok.ensures.name)
          (record { contents = c.in-Ok-begin.ensures.begun; begun = c.in-Ok-begin.ensures.begins.ok; fine = c.in-Ok-begin.ensures.cause.fine }))
          c.in-Ok-write_table.ensures.adds c.end.ensures.ended c.end.ensures.closed c.end.ensures.is_open c.end.ensures.same c.end.ensures.cause;
    }

pub returns : goal.returns
returns g c =
    let state = g.F.Folder.state in
    record {
      writes = file_given_up (table_file c.args.front.now c.args.format (chosen_value c.args.rows.now c.args.table.now)) (state c.args.folder.now)
          (state c.begin.new.self) (state c.write_table.new.folder) (state c.give_up.new.self) _
          (subst (λ (name : List ℕ). Begins name (state c.args.folder.now) (state c.begin.new.self)) (c.deref.ensures.value ∙ c.in-Ok.ensures.name)
          (record { contents = c.in-Ok-begin.ensures.begun; begun = c.in-Ok-begin.ensures.begins.ok; fine = c.in-Ok-begin.ensures.cause.fine }))
          c.in-Err-write_table.ensures.adds c.give_up.ensures.closed c.give_up.ensures.is_open c.give_up.ensures.same c.give_up.ensures.fine;
    }

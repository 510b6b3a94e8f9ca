-- What is left to prove of `write_load_file`: its clause `writes`, by how far it came.
use Rattle.std.proofs.Common.{ℕ, ◌∷◌, [], ◌++◌, List, ◌∙◌, subst}
use Rattle.std.specs.Prelude.{Err, Ok, codes}
use Rattle.std.specs.List.{flat_map}
use Rattle.desk_outside.specs.Folders.{BeginsName}
use Rattle.named_tables.specs.Tables.{chosen_values}
use Rattle.destinations.specs.Formats.{table_text}
use Rattle.destinations.specs.Writing.{AddsBytes}
use Rattle.destinations.specs.declared.format.TableFormat.TheVariants.{Sql}
use Rattle.destinations.proofs.AddingLemmas.{adds_stopped}
use Rattle.destinations.proofs.FileLemmas.{Begins, file_ended, file_given_up, file_not_begun, file_not_tried}
use Rattle.own_folder.specs.OwnFiles.{load_file}
use Rattle.own_folder.proofs.script.write_load_file.Goals as goal

pub returns-in-Err : goal.returns-in-Err
returns-in-Err g c = record {
  writes = file_not_tried (load_file c.args.path.now c.args.script.now (chosen_values c.args.rows.now c.args.tables.now)) (g.F.Folder.state c.args.folder.now);
}

pub returns-in-Err-load_front : goal.returns-in-Err-load_front
returns-in-Err-load_front g c = record {
  writes = file_not_tried (load_file c.args.path.now c.args.script.now (chosen_values c.args.rows.now c.args.tables.now)) (g.F.Folder.state c.args.folder.now);
}

pub returns-in-Err-begin : goal.returns-in-Err-begin
returns-in-Err-begin g c =
    let state = g.F.Folder.state in
    record {
      writes = file_not_begun (load_file c.args.path.now c.args.script.now (chosen_values c.args.rows.now c.args.tables.now)) (state c.args.folder.now)
          (state c.begin.new.self) _ c.in-Err-begin.ensures.closed c.in-Err-begin.ensures.is_open
          (subst (λ (name : List ℕ). BeginsName {T = Unit {0}} name (state c.args.folder.now).begun (state c.begin.new.self).begun (Err c.in-Err-begin.fault))
          (c.deref.ensures.value ∙ c.in-Ok.ensures.name) c.in-Err-begin.ensures.begins)
          c.in-Err-begin.ensures.cause;
    }

pub returns-in-Ok-write_script : goal.returns-in-Ok-write_script
returns-in-Ok-write_script g c =
    let state = g.F.Folder.state in
    let rest = c.args.script.now in
    let lines = flat_map (table_text Sql) (chosen_values c.args.rows.now c.args.tables.now) in
    record {
      writes = file_ended (load_file c.args.path.now c.args.script.now (chosen_values c.args.rows.now c.args.tables.now)) (state c.args.folder.now)
          (state c.begin.new.self) (state c.write_script.new.folder) (state c.end.new.self) tt c.end.result
          (subst (λ (name : List ℕ). Begins name (state c.args.folder.now) (state c.begin.new.self)) (c.deref.ensures.value ∙ c.in-Ok.ensures.name)
          (record { contents = c.in-Ok-begin.ensures.begun; begun = c.in-Ok-begin.ensures.begins.ok; fine = c.in-Ok-begin.ensures.cause.fine }))
          (subst (λ (front : List ℕ). AddsBytes (front ++ rest ++ lines ++ (codes "COMMIT;" ++ 10 ∷ [])) (state c.begin.new.self) (state c.write_script.new.folder) (Ok tt))
          c.in-Ok-load_front.ensures.front c.in-Ok-write_script.ensures.adds)
          c.end.ensures.ended c.end.ensures.closed c.end.ensures.is_open c.end.ensures.same c.end.ensures.cause;
    }

pub returns : goal.returns
returns g c =
    let state = g.F.Folder.state in
    record {
      writes = file_given_up (load_file c.args.path.now c.args.script.now (chosen_values c.args.rows.now c.args.tables.now)) (state c.args.folder.now)
          (state c.begin.new.self) (state c.write_script.new.folder) (state c.give_up.new.self) _
          (subst (λ (name : List ℕ). Begins name (state c.args.folder.now) (state c.begin.new.self)) (c.deref.ensures.value ∙ c.in-Ok.ensures.name)
          (record { contents = c.in-Ok-begin.ensures.begun; begun = c.in-Ok-begin.ensures.begins.ok; fine = c.in-Ok-begin.ensures.cause.fine }))
          (adds_stopped _ _ _ _ _ c.in-Err-write_script.ensures.adds) c.give_up.ensures.closed c.give_up.ensures.is_open c.give_up.ensures.same c.give_up.ensures.fine;
    }

-- What is left to prove of `open_headed_files`: its clause `opens`, by `FilesLemmas`, and that a round of its loop keeps
-- the invariant, by `one_more_opened`.
use Rattle.std.proofs.Common.{rules, ◌≡◌, ◌+◌, [], ◌∷◌, ◌++◌, length, map, arith, ap, refl, sym, subst, ◌∙◌}
use Rattle.std.proofs.lemmas.Grind.{common_steps}
use Rattle.std.proofs.lemmas.List.{map-append}
use Rattle.std.proofs.lemmas.List.Elements.{All-push}
use Rattle.std.specs.Prelude.{All}
use Rattle.dep_model.specs.Tuples.{IsOver}
use Rattle.headed_rows.specs.Headers.{IsColumnHeader}
use Rattle.headed_rows.specs.Headings.{headed_of}
use Rattle.headed_rows.specs.declared.headed_rows.Headed.{Headed}
use Rattle.desk_inputs.specs.Headed.{headed_file}
use Rattle.desk_inputs.proofs.FilesLemmas.{OpenedSome, none_opened, one_more_opened, all_opened, one_stops, none_held}
use Rattle.desk_inputs.proofs.headed_files.open_headed_files.Goals as goal

pub loop-file-init : goal.loop-file-init
loop-file-init g c = record {
  opened = none_opened (search rules);
  header = search rules;
  same_width = search rules;
  one_each = search rules;
}

pub loop-file-preserved : goal.loop-file-preserved
loop-file-preserved g c =
    let before = c.loop-file.invariant in
    let read = c.loop-file.read.items in
    let headed = c.in-Ok.headed in
    let more : c.add_headed.new.read.items ≡ read ++ headed ∷ [] = c.in-Ok-add_headed.ensures.added in
    let seen : map headed_of c.add_headed.new.read.items ≡ map headed_of read ++ headed_of headed ∷ [] =
    ap (map headed_of) more ∙ map-append headed_of read (headed ∷ []) in
    record {
      opened =
          subst (OpenedSome g.F.FileSource headed_file c.args.files.now c.args.source.now c.open_headed.new.source (c.loop-file.file-index + 1)) (sym seen)
          (one_more_opened c.file-item.result c.loop-file-test.true c.file-item.is before.opened c.in-Ok.ensures.opens);
      header = subst (All (λ (h : Headed). IsColumnHeader h.names.items)) (sym more) (All-push (λ (h : Headed). IsColumnHeader h.names.items) read headed before.header c.in-Ok.ensures.header);
      same_width = subst (All (λ (h : Headed). IsOver (length h.names.items) h.rows)) (sym more) (All-push (λ (h : Headed). IsOver (length h.names.items) h.rows) read headed before.same_width c.in-Ok.ensures.same_width);
      one_each = grind (arith, common_steps, more, before.one_each);
    }

pub returns-in-Err-clause-opens : goal.returns-in-Err-clause-opens
returns-in-Err-clause-opens g c = one_stops c.file-item.result c.loop-file-test.true c.file-item.is c.loop-file.invariant.opened c.in-Err.ensures.opens

pub returns-in-Err-add_headed-clause-opens : goal.returns-in-Err-add_headed-clause-opens
returns-in-Err-add_headed-clause-opens g c = none_held c.file-item.result c.loop-file-test.true c.file-item.is c.loop-file.invariant.opened c.in-Ok.ensures.opens

pub returns-clause-opens : goal.returns-clause-opens
returns-clause-opens g c = all_opened c.loop-file-test.false c.loop-file.invariant.opened refl

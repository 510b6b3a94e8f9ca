-- What is left to prove of `open_parts`: its clause `opens`, by `FilesLemmas`, and that a round of its loop keeps the
-- invariant, by `one_more_opened` and `tables_more`.
use Rattle.std.proofs.Common.{rules, ◌≡◌, ◌+◌, List, [], ◌∷◌, ◌++◌, arith, refl, sym, subst}
use Rattle.std.proofs.lemmas.Grind.{common_steps}
use Rattle.std.specs.Prelude.{All}
use Rattle.csv_rows.specs.declared.part.PartialRows.{PartialRows}
use Rattle.schema_model.specs.Schemas.{width_of}
use Rattle.table_join.specs.Tables.{IsTable, tables_of}
use Rattle.desk_inputs.specs.Parts.{part_file}
use Rattle.desk_inputs.proofs.FilesLemmas.{OpenedSome, none_opened, one_more_opened, all_opened, one_stops, none_held}
use Rattle.desk_inputs.proofs.PartLemmas.{tables_more}
use Rattle.desk_inputs.proofs.parts.open_parts.Goals as goal

pub loop-file-init : goal.loop-file-init
loop-file-init g c = record { opened = none_opened (search rules); tables = search rules; one_each = search rules }

pub loop-file-preserved : goal.loop-file-preserved
loop-file-preserved g c =
    let s = c.args.schema.now in
    let before = c.loop-file.invariant in
    let parts = c.loop-file.parts.items in
    let part = c.in-Ok.part in
    let more : c.add_part.new.parts.items ≡ parts ++ part ∷ [] = c.in-Ok-add_part.ensures.added in
    record {
      opened =
          subst (OpenedSome g.F.FileSource (part_file s) c.args.files.now c.args.source.now c.open_part.new.source (c.loop-file.file-index + 1)) (sym more)
          (one_more_opened c.file-item.result c.loop-file-test.true c.file-item.is before.opened c.in-Ok.ensures.opens);
      tables = subst (λ (l : List PartialRows). All (IsTable (width_of s)) (tables_of l)) (sym more) (tables_more (width_of s) parts part before.tables c.in-Ok.ensures.table);
      one_each = grind (arith, common_steps, more, before.one_each);
    }

pub returns-in-Err-clause-opens : goal.returns-in-Err-clause-opens
returns-in-Err-clause-opens g c = one_stops c.file-item.result c.loop-file-test.true c.file-item.is c.loop-file.invariant.opened c.in-Err.ensures.opens

pub returns-in-Err-add_part-clause-opens : goal.returns-in-Err-add_part-clause-opens
returns-in-Err-add_part-clause-opens g c = none_held c.file-item.result c.loop-file-test.true c.file-item.is c.loop-file.invariant.opened c.in-Ok.ensures.opens

pub returns-clause-opens : goal.returns-clause-opens
returns-clause-opens g c = all_opened c.loop-file-test.false c.loop-file.invariant.opened refl

-- What is left to prove of `add_runs`: its clause `added` and that the invariant of its loop holds
-- at first and stays, by `PrintLemmas` and `SpellingLemmas`.
use Rattle.std.proofs.Common.{◌≡◌, ◌<◌, ◌≤◌, ◌+◌, ◌-◌, ◌++◌, ◌∷◌, [], Some, length, map, drop, get_or, subst, ap, sym, ◌∙◌, arith, refl, append_assoc}
use Rattle.std.specs.Prelude.{slice_get}
use Rattle.std.proofs.lemmas.List.{drop_all}
use Rattle.schema_model.specs.declared.column_type.ColumnType.TheVariants.{Text}
use Rattle.schema_model.specs.Schemas.{types_of, width_of}
use Rattle.schema_printer.specs.Printing.{lines_text, run_line, runs_of}
use Rattle.schema_printer.specs.Spelling.{printed_names_of}
use Rattle.schema_printer.proofs.PrintLemmas.{drop-item, slice_get-get_or, runs_begin, PrintsRuns, added_before, after_text}
use Rattle.schema_printer.proofs.SpellingLemmas.{length_printed}
use Rattle.schema_printer.proofs.printing.add_runs.Goals as goal

pub loop-attribute-init : goal.loop-attribute-init
loop-attribute-init c =
    let s = c.args.schema.now in
    let types = types_of s in
    let names = printed_names_of s in
    runs_begin types names _ _ (get_or types 0 Text) (get_or names 0 [])
    (slice_get-get_or types 0 Text (omega (arith, s.valid.names_not_empty, s.typed.one_each)))
    (slice_get-get_or names 0 [] (omega (arith, s.valid.names_not_empty, length_printed s)))
    c.in_ok-add_typed.ensures.added

pub loop-attribute-preserved : goal.loop-attribute-preserved
loop-attribute-preserved c =
    let s = c.args.schema.now in
    let k = c.loop-attribute.attribute in
    let low : k < width_of s = omega (arith, c.loop-attribute-test.true, c.width-attribute-end.ensures.count) in
    let type = drop-item (types_of s) k _ (slice_get-get_or (types_of s) k Text (omega (arith, low, s.typed.one_each))) in
    let name = drop-item (printed_names_of s) k _ (slice_get-get_or (printed_names_of s) k [] (omega (arith, low, length_printed s))) in
    let back : k + 1 - 1 ≡ k = omega arith in
    record {
      same = rw (c.in_ok-add_after.ensures.added, back)
          (rw append_assoc (rw (type, name) at c.loop-attribute.invariant.same));
    }

pub returns : goal.returns
returns c =
    let s = c.args.schema.now in
    let k = c.loop-attribute.attribute in
    let past : width_of s ≤ k = omega (arith, c.loop-attribute-test.false, c.width-attribute-end.ensures.count) in
    let type = drop_all k (types_of s) (omega (arith, past, s.typed.one_each)) in
    record {
      added = added_before c.add.result c.args.text.now.items c.loop-attribute.text.items (10 ∷ [])
          (lines_text (map run_line (runs_of (types_of s) (printed_names_of s)))) c.add.new.text.items
          (rw type at c.loop-attribute.invariant.same) c.add.ensures.added;
    }

-- What is left to prove of `read_body`: its clauses `records` and `err` and that a round of its
-- loop keeps the invariant, by `HeadingLemmas`.
use Rattle.std.proofs.Common.{arith, ◌≡◌, ◌+◌, ◌∷◌, [], ℕ, List, length, refl, sym, ap, subst, ◌∙◌}
use Rattle.std.proofs.lemmas.List.{length-append}
use Rattle.csv.specs.Records.{fields_of}
use Rattle.dep_model.specs.Tuples.{Relation}
use Rattle.headed_rows.specs.Headings.{FitsRow, AreRows}
use Rattle.headed_rows.proofs.HeadingLemmas.{takes_row, takes_all_rows, row_refused, fit_more, fit_over}
use Rattle.headed_rows.proofs.headed_rows.read_body.Goals as goal

pub returns-in-Ok-false-clause-records : goal.returns-in-Ok-false-clause-records
returns-in-Ok-false-clause-records c = λ rs left.
    takes_all_rows rs _ _ _ _ _ (c.loop-rows.invariant.taken rs left) c.in-Ok-false.field-0-test
    c.in-Ok-false.ensures.record

pub returns-in-Ok-false-clause-same_width : goal.returns-in-Ok-false-clause-same_width
returns-in-Ok-false-clause-same_width c = fit_over c.args.most c.args.unclosed c.args.columns c.loop-rows.rows c.loop-rows.invariant.fit

pub returns-in-Some-clause-err : goal.returns-in-Some-clause-err
returns-in-Some-clause-err c = λ rs left.
    row_refused c.args.most c.args.unclosed c.args.columns rs _ _ _ _ c.loop-rows.rows (c.loop-rows.invariant.taken rs left)
    c.in-Ok-true.field-0-test c.in-Ok-true.ensures.record c.loop-rows.invariant.fit
    c.len-count.result c.in-Some.refusal c.len-count.ensures.count c.in-Some.ensures.refusal

pub loop-rows-preserved : goal.loop-rows-preserved
loop-rows-preserved c =
    let rows = c.in_ok-push.ensures.rows in
    let count : c.len-count.result ≡ length c.loop-rows.rows = c.len-count.ensures.count in
    let size : length c.push.new.self ≡ length c.loop-rows.rows + 1 = ap length rows
    ∙ length-append c.loop-rows.rows (c.take_fields.new.values ∷ []) in
    let fits : FitsRow c.args.most c.args.unclosed c.args.columns c.len-count.result (fields_of c.take_record.new.fields) = c.in-None.ensures.none refl in
    let next : FitsRow c.args.most c.args.unclosed c.args.columns (length c.loop-rows.rows) c.take_fields.new.values =
    subst (λ (f : List (List ℕ)). FitsRow c.args.most c.args.unclosed c.args.columns (length c.loop-rows.rows) f) (sym c.in_ok-take_fields.ensures.row)
    (subst (λ (i : ℕ). FitsRow c.args.most c.args.unclosed c.args.columns i (fields_of c.take_record.new.fields)) count fits) in
    record {
      within_limit = omega (arith, size, count, fits.2);
      fit = subst (λ (r : Relation). AreRows c.args.most c.args.unclosed c.args.columns r (length r)) (sym rows)
          (fit_more c.args.most c.args.unclosed c.args.columns c.loop-rows.rows c.take_fields.new.values c.loop-rows.invariant.fit next);
      taken = λ rs left. rw rows
          (takes_row rs _ _ _ _ _ _ (c.loop-rows.invariant.taken rs left) c.in-Ok-true.field-0-test
          c.in-Ok-true.ensures.record c.in_ok-take_fields.ensures.row);
    }

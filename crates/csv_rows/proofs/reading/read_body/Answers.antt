-- What is left to prove of `read_body`: its clauses `ok` and `err` and that a round of its loop
-- keeps the invariant, by `ReadingLemmas`.
use Rattle.std.proofs.Common.{arith, ◌≡◌, ◌≤◌, ◌+◌, ◌∷◌, [], length, ap, ◌∙◌}
use Rattle.std.proofs.lemmas.List.{length-append}
use Rattle.dep_model.proofs.FailureLemmas.{refuses_also}
use Rattle.csv_rows.proofs.ReadingLemmas.{progress_one, rows_read, row_refused}
use Rattle.csv_rows.proofs.reading.read_body.Goals as goal

pub returns-in-Ok-false-clause-ok : goal.returns-in-Ok-false-clause-ok
returns-in-Ok-false-clause-ok c = λ rs columns left kept.
    rows_read _ columns c.args.unclosed rs _ _ _ _ _ (c.records.invariant.progress rs columns left kept) c.in-Ok-false.field-0-test c.in-Ok-false.ensures.record

pub records-preserved : goal.records-preserved
records-preserved c =
    let count : c.len-count.result ≡ length c.records.rows = c.len-count.ensures.count in
    let opens = c.is_open-is_open.ensures.open in
    let row : c.len-count.result + 1 ≤ 10000000 = c.in-Ok.ensures.within_limit in
    let rows = c.in_ok-push-in-Ok.ensures.rows in
    let size : length c.push.new.self ≡ length c.records.rows + 1 = ap length rows ∙ length-append c.records.rows (c.read_row.new.values ∷ []) in
    record {
      within_limit = omega (arith, size, count, row);
      progress = λ rs columns left kept. rw rows
          (progress_one _ columns c.args.unclosed rs _ _ _ _ _ _ c.len-count.result c.read_row.new.values (c.records.invariant.progress rs columns left kept) c.in-Ok-true.field-0-test c.in-Ok-true.ensures.record count opens (c.in-Ok.ensures.ok columns kept));
    }

pub returns-in-Err-read_row-clause-err : goal.returns-in-Err-read_row-clause-err
returns-in-Err-read_row-clause-err c = λ rs columns left kept.
    let count : c.len-count.result ≡ length c.records.rows = c.len-count.ensures.count in
    let opens = c.is_open-is_open.ensures.open in
    refuses_also _ _ c.in-Err-read_row.failure (λ e row.
    row_refused _ columns c.args.unclosed rs _ _ _ _ _ _ c.len-count.result e (c.records.invariant.progress rs columns left kept) c.in-Ok-true.field-0-test c.in-Ok-true.ensures.record count opens row)
    (c.in-Err-read_row.ensures.err columns kept)

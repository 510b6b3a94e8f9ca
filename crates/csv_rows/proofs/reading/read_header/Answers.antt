-- What is left to prove of `read_header`: its clauses `ok` and `err`, by `ReadingLemmas`.
use Rattle.std.proofs.Common.{sym, ◌∙◌}
use Rattle.csv_rows.proofs.ReadingLemmas.{header_read, header_refused, open_header, no_header}
use Rattle.csv_rows.proofs.reading.read_header.Goals as goal

pub returns-in-Ok-true-clause-err : goal.returns-in-Ok-true-clause-err
returns-in-Ok-true-clause-err c = λ rs left.
    open_header _ c.args.unclosed c.args.reader.now c.take_record.new.reader _ _ rs (sym c.is_open.ensures.open ∙ c.if-is_open.true)
    c.in-Ok-true.field-0-test c.in-Ok-true.ensures.record left

pub returns-in-Ok-true-2-clause-ok : goal.returns-in-Ok-true-2-clause-ok
returns-in-Ok-true-2-clause-ok c = λ rs left.
    header_read c.args.schema.now c.args.unclosed c.args.reader.now c.take_record.new.reader _ _ c.new.result rs (sym c.is_open.ensures.open ∙ c.if-is_open.false)
    c.in-Ok-true.field-0-test c.in-Ok-true.ensures.record left c.new.ensures.ok

pub returns-in-Ok-true-2-clause-err : goal.returns-in-Ok-true-2-clause-err
returns-in-Ok-true-2-clause-err c = λ rs left.
    header_refused _ c.args.unclosed c.args.reader.now c.take_record.new.reader _ _ c.new.result rs (sym c.is_open.ensures.open ∙ c.if-is_open.false)
    c.in-Ok-true.field-0-test c.in-Ok-true.ensures.record left c.new.ensures.err

pub returns-in-Ok-false-clause-err : goal.returns-in-Ok-false-clause-err
returns-in-Ok-false-clause-err c = λ rs left.
    no_header _ c.args.unclosed c.args.reader.now c.take_record.new.reader _ _ rs c.in-Ok-false.field-0-test c.in-Ok-false.ensures.record left

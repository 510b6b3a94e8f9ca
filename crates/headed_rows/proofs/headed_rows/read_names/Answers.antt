-- What is left to prove of `read_names`: its clauses `ok` and `err`, by `HeadingLemmas`.
use Rattle.std.proofs.Common.{ℕ, List, Vec, Global, sym, ◌∙◌}
use Rattle.headed_rows.proofs.HeadingLemmas.{names_read, names_refused, open_names, no_names}
use Rattle.headed_rows.proofs.headed_rows.read_names.Goals as goal

pub returns-in-Ok-true-clause-err : goal.returns-in-Ok-true-clause-err
returns-in-Ok-true-clause-err c = λ rs left.
    open_names c.args.widest c.args.unclosed c.args.reader.now c.take_record.new.reader _ _ rs (sym c.is_open.ensures.open ∙ c.if-is_open.true)
    c.in-Ok-true.field-0-test c.in-Ok-true.ensures.record left

pub returns-in-Ok-true-2-clause-ok : goal.returns-in-Ok-true-2-clause-ok
returns-in-Ok-true-2-clause-ok c = λ rs left.
    names_read c.args.widest (λ (v : Vec (List ℕ) Global). v.items) c.args.unclosed c.args.reader.now c.take_record.new.reader _ _
    c.column_names.result rs (sym c.is_open.ensures.open ∙ c.if-is_open.false)
    c.in-Ok-true.field-0-test c.in-Ok-true.ensures.record left c.column_names.ensures.names
    c.column_names.ensures.header

pub returns-in-Ok-true-2-clause-err : goal.returns-in-Ok-true-2-clause-err
returns-in-Ok-true-2-clause-err c = λ rs left.
    names_refused c.args.widest c.args.unclosed c.args.reader.now c.take_record.new.reader _ _ c.column_names.result rs
    (sym c.is_open.ensures.open ∙ c.if-is_open.false)
    c.in-Ok-true.field-0-test c.in-Ok-true.ensures.record left c.column_names.ensures.err

pub returns-in-Ok-false-clause-err : goal.returns-in-Ok-false-clause-err
returns-in-Ok-false-clause-err c = λ rs left.
    no_names c.args.widest c.args.unclosed c.args.reader.now c.take_record.new.reader _ _ rs c.in-Ok-false.field-0-test
    c.in-Ok-false.ensures.record left

-- What is left to prove of `read_headed`: its clauses `err`, `ok` and `any_name`, by `FieldLemmas`
-- and `HeadingLemmas`.
use Rattle.std.proofs.Common.{arith, ◌≡◌, length}
use Rattle.dep_model.proofs.FailureLemmas.{refuses_also}
use Rattle.headed_rows.proofs.FieldLemmas.{header_not_empty}
use Rattle.headed_rows.proofs.HeadingLemmas.{header_refused, rows_refused, refused_text, is_headed}
use Rattle.headed_rows.proofs.headed_rows.read_headed.Goals as goal

pub returns-in-Err-clause-err : goal.returns-in-Err-clause-err
returns-in-Err-clause-err c =
    refuses_also _ _ c.in-Err.failure (λ e refused. refused_text c.args.limits c.args.text.now _ e c.open_record-unclosed.ensures.open (header_refused c.args.limits c.open_record-unclosed.result _ e refused)) (c.in-Err.ensures.err _ c.open_reader-reader.ensures.records)

pub returns-in-Ok-read_body-clause-ok : goal.returns-in-Ok-read_body-clause-ok
returns-in-Ok-read_body-clause-ok c =
    let read = c.in-Ok.ensures.ok _ c.open_reader-reader.ensures.records in
    let count : c.len.result ≡ length c.in-Ok.names.items = omega (arith, c.in-Ok.names.ok.0, c.len.ensures) in
    is_headed c.args.limits _ _ _ _ _ c.open_record-unclosed.ensures.open read count (c.in-Ok-read_body.ensures.records read.records read.left)
    c.in-Ok-read_body.ensures.closed c.in-Ok-read_body.ensures.same_width
    c.in-Ok-read_body.ensures.within_limit

pub returns-clause-err : goal.returns-clause-err
returns-clause-err c =
    let read = c.in-Ok.ensures.ok _ c.open_reader-reader.ensures.records in
    let count : c.len.result ≡ length c.in-Ok.names.items = omega (arith, c.in-Ok.names.ok.0, c.len.ensures) in
    refuses_also _ _ c.in-Err-read_body.failure (λ e refused. refused_text c.args.limits c.args.text.now _ e c.open_record-unclosed.ensures.open (rows_refused c.args.limits _ _ _ _ _ e read count refused))
    (c.in-Err-read_body.ensures.err read.records read.left)

pub returns-in-Ok-read_body-clause-any_name : goal.returns-in-Ok-read_body-clause-any_name
returns-in-Ok-read_body-clause-any_name c = header_not_empty c.args.text.now c.in-Ok.names.items c.in-Ok-read_body.rows
    (returns-in-Ok-read_body-clause-ok c).all

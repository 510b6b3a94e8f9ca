-- What is left to prove of `read_part`: its clauses `err`, `rows` and `scheme` and what `read_body`
-- requires, by `refused_part` and `part_rows`.
use Rattle.std.proofs.Common.{Err}
use Rattle.dep_model.proofs.FailureLemmas.{refuses_also}
use Rattle.csv_rows.proofs.ReadingLemmas.{part_of_text, refused_part, part_rows}
use Rattle.csv_rows.proofs.part.read_part.Goals as goal

pub returns-in-Err-clause-err : goal.returns-in-Err-clause-err
returns-in-Err-clause-err c = refuses_also _ _ c.in-Err.failure (λ e refused. part_of_text _ _ _ _ c.open_record-unclosed.ensures.open (refused_part c.args.schema.now c.open_record-unclosed.result _ e refused)) (c.in-Err.ensures.err _ c.open_reader-reader.ensures.records)

pub read_body-requires : goal.read_body-requires
read_body-requires c = let read = c.in-Ok.ensures.ok _ c.open_reader-reader.ensures.records in (read.columns, read.kept)

pub returns-in-Ok-read_body-clause-rows : goal.returns-in-Ok-read_body-clause-rows
returns-in-Ok-read_body-clause-rows c =
    let read = c.in-Ok.ensures.ok _ c.open_reader-reader.ensures.records in
    part_of_text _ _ _ _ c.open_record-unclosed.ensures.open
    (part_rows _ _ _ _ _ _ read (c.in-Ok-read_body.ensures.ok read.records read.columns read.left read.kept))

pub returns-in-Ok-read_body-clause-scheme : goal.returns-in-Ok-read_body-clause-scheme
returns-in-Ok-read_body-clause-scheme c =
    let read = c.in-Ok.ensures.ok _ c.open_reader-reader.ensures.records in
    (read.fields, read.records, read.all, read.columns, read.means, read.kept.scheme)

pub returns-clause-err : goal.returns-clause-err
returns-clause-err c =
    let read = c.in-Ok.ensures.ok _ c.open_reader-reader.ensures.records in
    refuses_also _ _ c.in-Err-read_body.failure (λ e rows. part_of_text _ _ _ _ c.open_record-unclosed.ensures.open (part_rows _ _ _ _ _ (Err e) read rows))
    (c.in-Err-read_body.ensures.err read.records read.columns read.left read.kept)

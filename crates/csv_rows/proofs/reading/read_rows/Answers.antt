-- What is left to prove of `read_rows`: its clauses `err`, `ok`, `over` and `fits` and what
-- `read_body` requires, by `ReadingLemmas`.
use Rattle.std.proofs.Common.{refl}
use Rattle.attr_sets.specs.Sets.{attributes}
use Rattle.dep_model.proofs.FailureLemmas.{refuses_also}
use Rattle.csv_rows.proofs.ReadingLemmas.{rows_of_text, refused_whole, refused_missing, whole_rows, on_ok, on_err, without_column-same, rows_over, rows_fit}
use Rattle.csv_rows.proofs.reading.read_rows.Goals as goal

pub returns-in-Err-clause-err : goal.returns-in-Err-clause-err
returns-in-Err-clause-err c = refuses_also _ _ c.in-Err.failure (λ e refused. rows_of_text _ _ _ _ c.open_record-unclosed.ensures.open (refused_whole c.args.schema.now c.open_record-unclosed.result _ e refused)) (c.in-Err.ensures.err _ c.open_reader-reader.ensures.records)

pub returns-in-Some-clause-err : goal.returns-in-Some-clause-err
returns-in-Some-clause-err c =
    let read = c.in-Ok.ensures.ok _ c.open_reader-reader.ensures.records in
    rows_of_text _ _ _ _ c.open_record-unclosed.ensures.open (refused_missing _ _ _ _ _ (attributes c.difference-missing.result) _ read (without_column-same _ _ _ _ _ c.width.ensures.count c.full.ensures.members c.difference-missing.ensures.members) c.in-Some.ensures.first)

pub read_body-requires : goal.read_body-requires
read_body-requires c = let read = c.in-Ok.ensures.ok _ c.open_reader-reader.ensures.records in (read.columns, read.kept)

pub returns-clause-ok : goal.returns-clause-ok
returns-clause-ok c =
    let read = c.in-Ok.ensures.ok _ c.open_reader-reader.ensures.records in
    on_ok _ _ c.read_body.result (λ v rows.
    rows_of_text _ _ _ _ c.open_record-unclosed.ensures.open (whole_rows _ _ _ _ _ (attributes c.difference-missing.result) _ read (without_column-same _ _ _ _ _ c.width.ensures.count c.full.ensures.members c.difference-missing.ensures.members) (c.in-None.ensures.none.0 refl) rows))
    (c.read_body.ensures.ok read.records read.columns read.left read.kept)

pub returns-clause-err : goal.returns-clause-err
returns-clause-err c =
    let read = c.in-Ok.ensures.ok _ c.open_reader-reader.ensures.records in
    on_err _ _ c.read_body.result (λ e rows.
    rows_of_text _ _ _ _ c.open_record-unclosed.ensures.open (whole_rows _ _ _ _ _ (attributes c.difference-missing.result) _ read (without_column-same _ _ _ _ _ c.width.ensures.count c.full.ensures.members c.difference-missing.ensures.members) (c.in-None.ensures.none.0 refl) rows))
    (c.read_body.ensures.err read.records read.columns read.left read.kept)

pub returns-clause-over : goal.returns-clause-over
returns-clause-over c = on_ok _ _ c.read_body.result (λ v rows. rows_over c.args.schema.now c.args.text.now v rows) (returns-clause-ok c)

pub returns-clause-fits : goal.returns-clause-fits
returns-clause-fits c = on_ok _ _ c.read_body.result (λ v rows. rows_fit c.args.schema.now c.args.text.now v rows) (returns-clause-ok c)

-- What is left to prove of `open_rows`: its clause `opens`, by `KindLemmas`.
use Rattle.desk_inputs.specs.Rows.{rows_file}
use Rattle.dep_model.proofs.FailureLemmas.{refused_is}
use Rattle.desk_inputs.proofs.KindLemmas.{file_not_loaded, file_read, file_refused}
use Rattle.desk_inputs.proofs.rows.open_rows.Goals as goal

pub returns-in-Ok-read_rows-clause-opens : goal.returns-in-Ok-read_rows-clause-opens
returns-in-Ok-read_rows-clause-opens g c = file_read (rows_file c.args.schema.now) c.in-Ok.ensures.loads c.deref.ensures.value c.in-Ok-read_rows.ensures.ok

pub returns-in-Err-Refused-clause-opens : goal.returns-in-Err-Refused-clause-opens
returns-in-Err-Refused-clause-opens g c = file_refused (rows_file c.args.schema.now) c.in-Err-Refused.refusal c.in-Ok.ensures.loads c.deref.ensures.value (refused_is _ _ _ c.in-Err-Refused.field-0-is c.in-Err-Refused.ensures.err)
    c.bytes.ensures.bytes (c.with_text.ensures.says _ c.row_refusal_line.ensures.text)

pub returns-in-Err-clause-opens : goal.returns-in-Err-clause-opens
returns-in-Err-clause-opens g c = file_not_loaded (rows_file c.args.schema.now) c.in-Err.ensures.loads

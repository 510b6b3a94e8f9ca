-- What is left to prove of `open_part`: its clauses `opens`, by `KindLemmas`, and `table`.
use Rattle.table_join.proofs.PartLemmas.{part_is_table}
use Rattle.desk_inputs.specs.Parts.{part_file}
use Rattle.dep_model.proofs.FailureLemmas.{refused_is}
use Rattle.desk_inputs.proofs.KindLemmas.{file_not_loaded, file_read, file_refused}
use Rattle.desk_inputs.proofs.parts.open_part.Goals as goal

pub returns-in-Ok-read_part-clause-opens : goal.returns-in-Ok-read_part-clause-opens
returns-in-Ok-read_part-clause-opens g c = file_read (part_file c.args.schema.now) c.in-Ok.ensures.loads c.deref.ensures.value record {
  rows = c.in-Ok-read_part.ensures.rows;
  columns = c.in-Ok-read_part.ensures.scheme;
}

pub returns-in-Ok-read_part-clause-table : goal.returns-in-Ok-read_part-clause-table
returns-in-Ok-read_part-clause-table g c =
    part_is_table c.args.schema.now _ c.in-Ok-read_part.part.rows c.in-Ok-read_part.part.scheme c.in-Ok-read_part.ensures.rows c.in-Ok-read_part.ensures.scheme

pub returns-in-Err-Refused-clause-opens : goal.returns-in-Err-Refused-clause-opens
returns-in-Err-Refused-clause-opens g c = file_refused (part_file c.args.schema.now) c.in-Err-Refused.refusal c.in-Ok.ensures.loads c.deref.ensures.value (refused_is _ _ _ c.in-Err-Refused.field-0-is c.in-Err-Refused.ensures.err)
    c.bytes.ensures.bytes (c.with_text.ensures.says _ c.row_refusal_line.ensures.text)

pub returns-in-Err-clause-opens : goal.returns-in-Err-clause-opens
returns-in-Err-clause-opens g c = file_not_loaded (part_file c.args.schema.now) c.in-Err.ensures.loads

-- What is left to prove of `open_schema`: its clause `opens`, by `KindLemmas`.
use Rattle.desk_inputs.specs.Inputs.{schema_file}
use Rattle.dep_model.proofs.FailureLemmas.{refused_is}
use Rattle.desk_inputs.proofs.KindLemmas.{file_not_loaded, file_read, file_refused}
use Rattle.desk_inputs.proofs.read.open_schema.Goals as goal

pub returns-in-Ok-read_schema : goal.returns-in-Ok-read_schema
returns-in-Ok-read_schema g c =
    record { opens = file_read schema_file c.in-Ok.ensures.loads c.deref.ensures.value c.in-Ok-read_schema.ensures.ok }

pub returns-in-Err-Refused : goal.returns-in-Err-Refused
returns-in-Err-Refused g c =
    record {
      opens = file_refused schema_file c.in-Err-Refused.refusal c.in-Ok.ensures.loads c.deref.ensures.value (refused_is _ _ _ c.in-Err-Refused.field-0-is c.in-Err-Refused.ensures.err)
          c.bytes.ensures.bytes c.refusal_exit.ensures.says;
    }

pub returns-in-Err : goal.returns-in-Err
returns-in-Err g c =
    record { opens = file_not_loaded schema_file c.in-Err.ensures.loads }

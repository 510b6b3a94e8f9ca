-- What is left to prove of `open_headed_for`: its clause `opens`, by `KindLemmas`.
use Rattle.desk_inputs.specs.Headed.{headed_file_for}
use Rattle.dep_model.proofs.FailureLemmas.{refused_is}
use Rattle.desk_inputs.proofs.KindLemmas.{file_not_loaded, file_read, file_refused}
use Rattle.desk_inputs.proofs.headed.open_headed_for.Goals as goal

pub returns-in-Ok-read_headed-clause-opens : goal.returns-in-Ok-read_headed-clause-opens
returns-in-Ok-read_headed-clause-opens g c = file_read (headed_file_for c.args.command.now c.args.limits) c.in-Ok.ensures.loads c.deref.ensures.value c.in-Ok-read_headed.ensures.ok

pub returns-in-Err-Refused-clause-opens : goal.returns-in-Err-Refused-clause-opens
returns-in-Err-Refused-clause-opens g c = file_refused (headed_file_for c.args.command.now c.args.limits) c.in-Err-Refused.refusal c.in-Ok.ensures.loads c.deref.ensures.value (refused_is _ _ _ c.in-Err-Refused.field-0-is c.in-Err-Refused.ensures.err)
    c.bytes.ensures.bytes (c.with_text.ensures.says _ c.headed_refusal_line.ensures.text)

pub returns-in-Err-clause-opens : goal.returns-in-Err-clause-opens
returns-in-Err-clause-opens g c = file_not_loaded (headed_file_for c.args.command.now c.args.limits) c.in-Err.ensures.loads

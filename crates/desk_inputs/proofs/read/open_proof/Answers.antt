-- What is left to prove of `open_proof`: its clause `opens`, by `KindLemmas`, and what `proof_refusal_line` requires.
use Rattle.proof_grammar.specs.Diagnostics.{line_diagnostic_of}
use Rattle.desk_inputs.specs.Inputs.{proof_file}
use Rattle.dep_model.proofs.FailureLemmas.{refused_is}
use Rattle.desk_inputs.proofs.KindLemmas.{file_not_loaded, file_read, file_refused}
use Rattle.desk_inputs.proofs.read.open_proof.Goals as goal

pub returns-in-Ok-read_concluded-clause-opens : goal.returns-in-Ok-read_concluded-clause-opens
returns-in-Ok-read_concluded-clause-opens g c = file_read (proof_file c.args.schema.now) c.in-Ok.ensures.loads c.deref.ensures.value c.in-Ok-read_concluded.ensures.ok

pub proof_refusal_line-requires : goal.proof_refusal_line-requires
proof_refusal_line-requires g c = record {
  within = refused_is _ _ _ c.in-Err-Refused.field-0-is c.in-Err-Refused.ensures.within;
}

pub returns-in-Err-Refused-clause-opens : goal.returns-in-Err-Refused-clause-opens
returns-in-Err-Refused-clause-opens g c = file_refused (proof_file c.args.schema.now) (line_diagnostic_of c.in-Err-Refused.refusal) c.in-Ok.ensures.loads c.deref.ensures.value (refused_is _ _ _ c.in-Err-Refused.field-0-is c.in-Err-Refused.ensures.err)
    c.bytes.ensures.bytes (c.with_text.ensures.says _ c.proof_refusal_line.ensures.text)

pub returns-in-Err-clause-opens : goal.returns-in-Err-clause-opens
returns-in-Err-clause-opens g c = file_not_loaded (proof_file c.args.schema.now) c.in-Err.ensures.loads

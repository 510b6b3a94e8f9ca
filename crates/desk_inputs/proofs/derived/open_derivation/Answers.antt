-- What is left to prove of `open_derivation`: its clauses `opens`, by `KindLemmas`, and `derivation`, and what
-- `derivation_refusal_line` requires.
use Rattle.schema_model.specs.Schemas.{universe_of}
use Rattle.proof_grammar.specs.Diagnostics.{line_diagnostic_of}
use Rattle.desk_inputs.specs.Inputs.{derivation_file}
use Rattle.dep_model.proofs.FailureLemmas.{refused_is}
use Rattle.desk_inputs.proofs.KindLemmas.{file_not_loaded, file_read, file_refused}
use Rattle.desk_inputs.proofs.derived.open_derivation.Goals as goal

pub returns-in-Ok-read_derivation-clause-opens : goal.returns-in-Ok-read_derivation-clause-opens
returns-in-Ok-read_derivation-clause-opens g c = file_read (derivation_file c.args.schema.now) c.in-Ok.ensures.loads c.deref.ensures.value c.in-Ok-read_derivation.ensures.ok

pub returns-in-Ok-read_derivation-clause-derivation : goal.returns-in-Ok-read_derivation-clause-derivation
returns-in-Ok-read_derivation-clause-derivation g c = (_, c.in-Ok-read_derivation.ensures.ok)

pub derivation_refusal_line-requires : goal.derivation_refusal_line-requires
derivation_refusal_line-requires g c = record {
  within = refused_is _ _ _ c.in-Err-Refused.field-0-is (c.in-Err-Refused.ensures.within (universe_of c.args.schema.now));
}

pub returns-in-Err-Refused-clause-opens : goal.returns-in-Err-Refused-clause-opens
returns-in-Err-Refused-clause-opens g c = file_refused (derivation_file c.args.schema.now) (line_diagnostic_of c.in-Err-Refused.refusal) c.in-Ok.ensures.loads c.deref.ensures.value (refused_is _ _ _ c.in-Err-Refused.field-0-is c.in-Err-Refused.ensures.err)
    c.bytes.ensures.bytes (c.with_text.ensures.says _ c.derivation_refusal_line.ensures.text)

pub returns-in-Err-clause-opens : goal.returns-in-Err-clause-opens
returns-in-Err-clause-opens g c = file_not_loaded (derivation_file c.args.schema.now) c.in-Err.ensures.loads

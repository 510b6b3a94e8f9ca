-- The laws `schemas_are_read_or_refused`, clause by clause.
use Rattle.schema_grammar.proofs.OneTextRefusal.{schema-refusal-law}
use Rattle.schema_grammar.proofs.SchemaLaws.{schema-law}
use Rattle.schema_grammar.proofs.laws.schemas_are_read_or_refused.Goals as goal

pub returns : goal.returns
returns c = record {
  refusal = schema-refusal-law;
  meaning = schema-law;
}

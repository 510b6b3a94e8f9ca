-- The laws `sets_are_read_or_refused`, clause by clause.
use Rattle.schema_grammar.proofs.SetLaws.{set-law, set-diagnostic-law, set-refusal-law}
use Rattle.schema_grammar.proofs.laws.sets_are_read_or_refused.Goals as goal

pub returns : goal.returns
returns c = record {
  meaning = set-law;
  diagnostic = set-diagnostic-law;
  refusal = set-refusal-law;
}

-- The laws `goals_are_read_or_refused`, clause by clause.
use Rattle.schema_grammar.proofs.GoalLaws.{goal-law}
use Rattle.schema_grammar.proofs.DiagnosticLaws.{goal-diagnostic-law}
use Rattle.schema_grammar.proofs.OneTextRefusal.{goal-refusal-law}
use Rattle.schema_grammar.proofs.laws.goals_are_read_or_refused.Goals as goal

pub returns : goal.returns
returns c = record {
  meaning = goal-law;
  diagnostic = goal-diagnostic-law;
  refusal = goal-refusal-law;
}

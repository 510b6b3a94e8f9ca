-- The laws `printed_scripts_end`, clause by clause.
use Rattle.migration_laws.proofs.AnswerLemmas.{form_ends, plan_ends}
use Rattle.migration_laws.proofs.answering.printed_scripts_end.Goals as goal

pub returns : goal.returns
returns c = record {
  form = form_ends;
  plan = plan_ends;
}

-- The laws `scripts_have_one_answer`, clause by clause.
use Rattle.plan_laws.proofs.DesignAnswers.{one_check_scripted, one_measure_scripted, one_form_scripted, one_plan_scripted}
use Rattle.plan_laws.proofs.answering.scripts_have_one_answer.Goals as goal

pub returns : goal.returns
returns c = record {
  check = one_check_scripted;
  measure = one_measure_scripted;
  migrate = one_form_scripted;
  migrate_by_plan = one_plan_scripted;
}

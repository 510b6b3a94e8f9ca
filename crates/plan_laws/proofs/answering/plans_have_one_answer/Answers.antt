-- The laws `plans_have_one_answer`, clause by clause.
use Rattle.plan_laws.proofs.SplitAnswers.{one_split_answer, one_wide_split_answer}
use Rattle.plan_laws.proofs.FormAnswers.{one_form_of_all, one_list_of_forms}
use Rattle.plan_laws.proofs.FewestAnswers.{one_fewest, one_explained_fewest}
use Rattle.plan_laws.proofs.ReasonAnswers.{one_explained_synthesis, one_explained_split}
use Rattle.plan_laws.proofs.DesignAnswers.{one_form_written, one_plan_written, one_form_drawn, one_plan_drawn}
use Rattle.plan_laws.proofs.answering.plans_have_one_answer.Goals as goal

pub returns : goal.returns
returns c = record {
  split = one_split_answer;
  split_wide = one_wide_split_answer;
  form = one_form_of_all;
  form_of_plan = one_list_of_forms;
  fewest = one_fewest;
  explained_synthesis = one_explained_synthesis;
  explained_fewest = one_explained_fewest;
  explained_split = one_explained_split;
  ddl = one_form_written;
  ddl_of_plan = one_plan_written;
  draw = one_form_drawn;
  draw_of_plan = one_plan_drawn;
}

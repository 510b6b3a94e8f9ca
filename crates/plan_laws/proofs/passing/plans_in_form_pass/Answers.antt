-- The laws `plans_in_form_pass`, clause by clause.
use Rattle.plan_laws.proofs.PassingLaws.{planned_form, planned_join, third_plan_second, third_keeps, third_is_second}
use Rattle.plan_laws.proofs.passing.plans_in_form_pass.Goals as goal

pub returns : goal.returns
returns c = record {
  form = planned_form;
  join = planned_join;
  second = third_plan_second;
  keeps = third_keeps;
  third_is_second = third_is_second;
}

-- The laws `scripts_are_answered`, clause by clause.
use Rattle.desk_laws.proofs.ScriptLaws.{sql_check_answered, sql_measure_answered, sql_migrate_answered, sql_plan_answered, draw_answered, draw_plan_answered}
use Rattle.desk_laws.proofs.complete_scripts.scripts_are_answered.Goals as goal

pub returns : goal.returns
returns c = record {
  check = sql_check_answered;
  measure = sql_measure_answered;
  migrate_in_form = sql_migrate_answered;
  migrate_by_plan = sql_plan_answered;
  draw_in_form = draw_answered;
  draw_plan = draw_plan_answered;
}

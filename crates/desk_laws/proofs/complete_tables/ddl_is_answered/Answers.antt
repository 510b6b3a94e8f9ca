-- What is left to prove of `ddl_is_answered`: its clauses `in_form` and `plan`, by `ddl_answered`
-- and `ddl_plan_answered`.
use Rattle.desk_laws.proofs.TableLaws.{ddl_answered, ddl_plan_answered}
use Rattle.desk_laws.proofs.complete_tables.ddl_is_answered.Goals as goal

pub returns : goal.returns
returns c = record {
  in_form = ddl_answered;
  plan = ddl_plan_answered;
}

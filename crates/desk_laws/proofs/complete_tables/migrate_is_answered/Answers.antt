-- What is left to prove of `migrate_is_answered`: its clauses `in_form` and `plan`, by
-- `migrate_answered` and `migrate_plan_answered`.
use Rattle.desk_laws.proofs.TableLaws.{migrate_answered, migrate_plan_answered}
use Rattle.desk_laws.proofs.complete_tables.migrate_is_answered.Goals as goal

pub returns : goal.returns
returns c = record {
  in_form = migrate_answered;
  plan = migrate_plan_answered;
}

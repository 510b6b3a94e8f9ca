-- What is left to prove of `answer_plan`: its clause where a plan is written or moved into.
use Rattle.desk_cli.specs.Performs.{AnswersPlan}
use Rattle.desk_cli.proofs.questions.answer_plan.Goals as goal

pub returns-in-Ddl : goal.returns-in-Ddl
unfolding AnswersPlan
returns-in-Ddl c = record { response = rw (c.in-Ddl.is, ← c.deref-names.ensures.value) c.write_plan.ensures.response }

pub returns-in-SqlMigrate : goal.returns-in-SqlMigrate
unfolding AnswersPlan
returns-in-SqlMigrate c = record { response = rw (c.in-SqlMigrate.is, ← c.deref-names.ensures.value) c.script_migration_by_plan.ensures.response }

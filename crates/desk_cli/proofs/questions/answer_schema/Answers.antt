-- What is left to prove of `answer_schema`: its clause where rows are moved in a form.
use Rattle.desk_cli.specs.Performs.{AnswersSchema}
use Rattle.desk_cli.proofs.questions.answer_schema.Goals as goal

pub returns-in-SqlMigrate : goal.returns-in-SqlMigrate
unfolding AnswersSchema
returns-in-SqlMigrate c = record { response = rw c.in-SqlMigrate.is c.script_migration.ensures.response }

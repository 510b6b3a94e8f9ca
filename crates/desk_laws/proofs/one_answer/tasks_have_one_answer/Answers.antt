-- The law `tasks_have_one_answer`, by `one_task`.
use Rattle.desk_laws.proofs.OneTask.{one_task}
use Rattle.desk_laws.proofs.one_answer.tasks_have_one_answer.Goals as goal

pub returns : goal.returns
returns c = record { law = one_task }

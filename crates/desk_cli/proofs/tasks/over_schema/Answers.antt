-- What is left to prove of `over_schema`: its clause `reads`.
use Rattle.schema_model.specs.Schemas.{Schema}
use Rattle.desk_words.specs.Commands.{task_form}
use Rattle.desk_outside.specs.FreeNames.{may_be_free}
use Rattle.desk_inputs.specs.Readings.{Reading}
use Rattle.desk_cli.specs.FilesRead.{files_of_task}
use Rattle.desk_cli.specs.Performs.{Does}
use Rattle.desk_inputs.proofs.CallLemmas.{opened_then, stopped}
use Rattle.desk_cli.proofs.tasks.over_schema.Goals as goal

pub returns-in-Err : goal.returns-in-Err
returns-in-Err g c = record {
  reads = stopped (files_of_task (task_form c.args.task))
      (λ (r : Reading) (schema : Schema). Does (may_be_free (g.G.Folder.state c.args.place.now).contents) r schema (task_form c.args.task)) c.in-Err.ensures.opens;
}

pub returns : goal.returns
returns g c = record {
  reads = opened_then (λ (r : Reading) (schema : Schema). Does (may_be_free (g.G.Folder.state c.args.place.now).contents) r schema (task_form c.args.task))
      c.perform_task.result c.in-Ok.ensures.opens c.perform_task.ensures.reads;
}

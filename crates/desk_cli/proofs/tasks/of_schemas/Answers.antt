-- What is left to prove of `of_schemas`: its clause `reads`.
use Rattle.schema_model.specs.Schemas.{Schema}
use Rattle.desk_words.specs.Commands.{pair_question}
use Rattle.desk_cli.specs.Performs.{AnswersPair}
use Rattle.desk_inputs.specs.Readings.{Reading}
use Rattle.desk_inputs.proofs.CallLemmas.{not_opened, opened}
use Rattle.desk_cli.proofs.tasks.of_schemas.Goals as goal

pub returns-in-Err : goal.returns-in-Err
returns-in-Err g c = record { reads = not_opened (λ (r : Reading) (other : Schema). AnswersPair c.args.schema.now other c.args.file.now c.args.other_file.now (pair_question c.args.question)) c.in-Err.ensures.opens }

pub returns : goal.returns
returns g c = record {
  reads = opened (λ (other : Schema). AnswersPair c.args.schema.now other c.args.file.now c.args.other_file.now (pair_question c.args.question))
      c.answer_pair.result c.in-Ok.ensures.opens c.answer_pair.ensures.response;
}

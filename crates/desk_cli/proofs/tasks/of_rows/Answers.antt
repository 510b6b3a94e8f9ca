-- What is left to prove of `of_rows`: its clause `reads`.
use Rattle.dep_model.specs.Tuples.{Relation}
use Rattle.desk_words.specs.Commands.{rows_question}
use Rattle.desk_cli.specs.Performs.{AnswersRows}
use Rattle.desk_inputs.specs.Readings.{Reading}
use Rattle.desk_inputs.proofs.CallLemmas.{not_opened, opened}
use Rattle.desk_cli.proofs.tasks.of_rows.Goals as goal

pub returns-in-Err : goal.returns-in-Err
returns-in-Err g c = record { reads = not_opened (λ (r : Reading) (rows : Relation). AnswersRows c.args.schema.now rows (rows_question c.args.question)) c.in-Err.ensures.opens }

pub returns : goal.returns
returns g c = record {
  reads = opened (λ (rows : Relation). AnswersRows c.args.schema.now rows (rows_question c.args.question)) c.answer_rows.result
      c.in-Ok.ensures.opens c.answer_rows.ensures.response;
}

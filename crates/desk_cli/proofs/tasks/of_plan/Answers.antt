-- What is left to prove of `of_plan`: its clause `reads`.
use Rattle.plan_printer.specs.NamedPlans.{NamedSchemes}
use Rattle.desk_words.specs.Commands.{plan_question}
use Rattle.desk_cli.specs.Performs.{AnswersPlan}
use Rattle.desk_inputs.specs.Readings.{Reading}
use Rattle.desk_inputs.proofs.CallLemmas.{not_opened, opened}
use Rattle.desk_cli.proofs.tasks.of_plan.Goals as goal

pub returns-in-Err : goal.returns-in-Err
returns-in-Err g c = record { reads = not_opened (λ (r : Reading) (plan : NamedSchemes). AnswersPlan c.args.schema.now plan (plan_question c.args.question)) c.in-Err.ensures.opens }

pub returns : goal.returns
returns g c = record {
  reads = opened (λ (plan : NamedSchemes). AnswersPlan c.args.schema.now plan (plan_question c.args.question)) c.answer_plan.result
      c.in-Ok.ensures.opens c.answer_plan.ensures.response;
}

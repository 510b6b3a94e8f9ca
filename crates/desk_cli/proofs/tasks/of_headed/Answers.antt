-- What is left to prove of `of_headed`: its clause `reads`.
use Rattle.desk_words.specs.Commands.{rules_question}
use Rattle.desk_cli.specs.Performs.{AnswersRules}
use Rattle.desk_inputs.specs.Readings.{Reading}
use Rattle.desk_inputs.proofs.CallLemmas.{not_opened, opened}
use Rattle.desk_cli.proofs.tasks.of_headed.Goals as goal

pub returns-in-Err : goal.returns-in-Err
returns-in-Err g c = record { reads = not_opened (λ (r : Reading). AnswersRules (rules_question c.args.question) c.args.file.now) c.in-Err.ensures.opens }

pub returns : goal.returns
returns g c = record {
  reads = opened (AnswersRules (rules_question c.args.question) c.args.file.now) c.answer_rules.result c.in-Ok.ensures.opens c.answer_rules.ensures.response;
}

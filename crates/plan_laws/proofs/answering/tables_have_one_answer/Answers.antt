-- The laws `tables_have_one_answer`, clause by clause.
use Rattle.plan_laws.proofs.RowAnswers.{one_rows_answer, one_plan_migrated}
use Rattle.plan_laws.proofs.JoinAnswers.{one_rejoined}
use Rattle.plan_laws.proofs.PlacedAnswers.{one_form_placed, one_plan_placed}
use Rattle.plan_laws.proofs.FolderAnswers.{one_form_into, one_plan_into}
use Rattle.std.proofs.Common.{arith}
use Rattle.plan_laws.proofs.SampleAnswers.{one_sampled}
use Rattle.plan_laws.proofs.answering.tables_have_one_answer.Goals as goal

pub returns : goal.returns
returns c = record {
  check_rows = one_rows_answer;
  migrate = one_plan_migrated;
  here = one_form_placed;
  here_by_plan = one_plan_placed;
  into = one_form_into;
  into_by_plan = one_plan_into;
  sample = λ persons within. one_sampled persons (omega (arith, within));
  rejoin = one_rejoined;
}

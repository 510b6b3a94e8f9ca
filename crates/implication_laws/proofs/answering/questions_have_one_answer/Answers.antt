-- The laws `questions_have_one_answer`, clause by clause.
use Rattle.implication_laws.proofs.OneDecision.{one_decision}
use Rattle.implication_laws.proofs.OneAnswer.{one_certificate_answer, one_basis_answer, one_keys_answer, one_exhibit_answer}
use Rattle.implication_laws.proofs.OneDerivation.{one_derivation_answer}
use Rattle.implication_laws.proofs.OneStepsAnswer.{one_closure_answer, one_key_answer}
use Rattle.implication_laws.proofs.OneProjection.{one_projection_answer}
use Rattle.implication_laws.proofs.OnePlanAnswer.{one_plan_answer}
use Rattle.implication_laws.proofs.answering.questions_have_one_answer.Goals as goal

pub returns : goal.returns
returns c = record {
  implies = one_decision;
  certificate = one_certificate_answer;
  derivation = one_derivation_answer;
  closure = one_closure_answer;
  basis = one_basis_answer;
  projection = one_projection_answer;
  key = one_key_answer;
  keys = one_keys_answer;
  keys_of_plan = one_plan_answer;
  exhibit = one_exhibit_answer;
}

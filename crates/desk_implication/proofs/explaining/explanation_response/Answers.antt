-- What is left to prove of `explanation_response`: what is required of the certificate, and that the answer
-- explains the goal.
use Rattle.std.proofs.Common.{◌≡◌, inl, inr, List, ◌++◌}
use Rattle.std.proofs.lemmas.Result.{IfOk-weaker}
use Rattle.dep_model.specs.Deps.{dependency_of}
use Rattle.derivation_printer.specs.Printing.{derivation_text}
use Rattle.short_derivations.specs.Inferences.{Line}
use Rattle.desk_texts.specs.Texts.{yes_text}
use Rattle.desk_responses.specs.ResponseValues.{Says}
use Rattle.desk_responses.specs.Responses.{response_value}
use Rattle.desk_responses.specs.declared.status.Status.TheVariants.{Yes}
use Rattle.desk_implication.specs.Implication.{Decided}
use Rattle.desk_implication.specs.Explanations.{ExplainsGoal, IsExplanation}
use Rattle.desk_implication.proofs.explaining.explanation_response.Goals as goal

pub derivation_response-requires-clause-certifies : goal.derivation_response-requires-clause-certifies
derivation_response-requires-clause-certifies c =
    let answer = rw (c.in-Yes.is, c.theory.ensures.theory) at c.in_ok-certificate.ensures.answer in
    rw c.deref.ensures (record {
      proves = answer.0;
      chain = answer.1;
      direct = rw (c.in-Yes.is, c.theory.ensures.theory) at c.in_ok-certificate.ensures.direct;
      short = rw (c.in-Yes.is, c.theory.ensures.theory) at c.in_ok-certificate.ensures.short;
    })

pub returns-in-Yes : goal.returns-in-Yes
returns-in-Yes c =
    let s = c.args.schema.now in
    let d = dependency_of c.args.dep in
    let yes = rw (c.in-Yes.is, c.theory.ensures.theory) at c.in_ok-certificate.ensures.yes in
    record {
      response = IfOk-weaker c.derivation_response.result
          (λ response. (lines : List Line) × IsExplanation s d lines × Says Yes (yes_text ++ derivation_text s lines) (response_value response))
          (λ response. ExplainsGoal s d (response_value response))
          (λ response said. inl (yes.0 (tt {0}), said)) c.derivation_response.ensures.response;
    }

pub returns-in-No : goal.returns-in-No
returns-in-No c =
    let s = c.args.schema.now in
    let d = dependency_of c.args.dep in
    let yes = rw (c.in-No.is, c.theory.ensures.theory) at c.in_ok-certificate.ensures.yes in
    record {
      response = IfOk-weaker c.decision_response.result
          (λ response. Decided s d (response_value response))
          (λ response. ExplainsGoal s d (response_value response))
          (λ response decided. inr (yes.1, decided)) c.decision_response.ensures.response;
    }

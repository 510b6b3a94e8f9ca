-- What is left to prove of `explained_synthesis`: what the plan requires of the steps, and its clause, by
-- `explains_synthesis`.
use Rattle.std.proofs.Common.{◌++◌, sym, subst}
use Rattle.std.proofs.lemmas.Result.{IfOk-weaker}
use Rattle.plans.specs.Plans.{scheme_sets}
use Rattle.desk_responses.specs.ResponseValues.{ResponseValue, Says}
use Rattle.desk_responses.specs.Responses.{response_value}
use Rattle.desk_responses.specs.declared.status.Status.TheVariants.{Yes}
use Rattle.desk_designs.specs.SynthesisReasons.{ExplainsSynthesis}
use Rattle.desk_designs.proofs.ReasonLemmas.{explains_synthesis, plain_text}
use Rattle.desk_designs.proofs.synthesis_reasons.explained_synthesis.Goals as goal

pub synthesis_with_reasons-requires : goal.synthesis_with_reasons-requires
synthesis_with_reasons-requires c = record {
  steps = rw (c.theory.ensures.theory, c.nullable.ensures.nullable) at c.in_ok-steps.ensures.steps;
  lefts = c.in_ok-steps.ensures.lefts;
  minimal = rw (c.theory.ensures.theory) at c.in_ok-steps.ensures.minimal;
  within = rw (c.theory.ensures.theory) at c.in_ok-steps.ensures.within;
}

pub returns : goal.returns
returns c =
    let s = c.args.schema.now in
    let found = c.in_ok-found.found in
    let plan = scheme_sets found.plan in
    let reasons = found.reasons.items in
    record {
      response = IfOk-weaker c.explained_response.result
          (λ response. Says Yes (reasons ++ plain_text s plan) (response_value response))
          (λ response. ExplainsSynthesis s (response_value response))
          (λ response says. subst (λ (r : ResponseValue). ExplainsSynthesis s r) (sym says)
          (explains_synthesis s plan reasons c.in_ok-found.ensures.third c.in_ok-found.ensures.reasons))
          c.explained_response.ensures.says;
    }

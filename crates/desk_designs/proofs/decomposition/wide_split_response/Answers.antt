-- What is left to prove of `wide_split_response`: its clause `response`, of the schema's own theory.
use Rattle.std.proofs.Common.{ℕ, List, subst}
use Rattle.desk_responses.specs.ResponseValues.{Says}
use Rattle.desk_responses.specs.Responses.{response_value}
use Rattle.desk_responses.specs.declared.status.Status.TheVariants.{Yes}
use Rattle.plans.specs.Plans.{scheme_sets}
use Rattle.desk_designs.proofs.decomposition.wide_split_response.Goals as goal

pub returns : goal.returns
returns c = record {
  response = (
    scheme_sets c.in_ok-plan.plan,
    record {
      split = rw (c.theory.ensures.theory) at c.in_ok-plan.ensures.split;
      lossless = rw (c.theory.ensures.theory) at c.in_ok-plan.ensures.lossless;
      bcnf = rw (c.theory.ensures.theory) at c.in_ok-plan.ensures.bcnf;
      within_limit = rw (c.theory.ensures.theory) at c.in_ok-plan.ensures.at_most_width;
    },
    subst (λ (text : List ℕ). Says Yes text (response_value c.with_text.result)) c.in_ok-wide_split_lines.ensures.text
        c.with_text.ensures.says,
  );
}

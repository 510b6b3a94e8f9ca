-- What is left to prove of `explain_cuts`: its clause, by `explains_cuts`, and that a refusal is the command's.
use Rattle.std.proofs.Common.{◌≡◌, ◌++◌, sym, subst, inl, inr, refl}
use Rattle.dep_model.specs.declared.form.Form.{Form}
use Rattle.plans.specs.Plans.{scheme_sets}
use Rattle.schema_model.specs.Schemas.{Schema}
use Rattle.desk_designs.specs.Decompositions.{SplitStops}
use Rattle.desk_responses.specs.ResponseValues.{ResponseValue}
use Rattle.desk_responses.specs.Responses.{response_value}
use Rattle.desk_responses.specs.declared.status.Status.TheVariants.{Yes}
use Rattle.desk_designs.specs.SplitReasons.{ExplainsCuts}
use Rattle.desk_designs.proofs.ReasonLemmas.{explains_cuts}
use Rattle.desk_designs.proofs.StatusLemmas.{refused_not_yes}
use Rattle.desk_designs.proofs.split_reasons.explain_cuts.Goals as goal

stops_not_yes : (s : Schema) (form : Form) (response : ResponseValue) → SplitStops s form response → response.status ≡ Yes → ⊥
stops_not_yes s form response (inl (scheme, wide, says)) = refused_not_yes _ response says
stops_not_yes s form response (inr (many, says)) = refused_not_yes _ response says

pub returns-in-Err : goal.returns-in-Err
returns-in-Err c = record {
  response = λ response is.
      let stops = c.in-Err.ensures.exit response is in
      (response_value response, inl stops, inr (stops_not_yes c.args.schema.now c.args.form (response_value response) stops, refl));
}

pub returns-in_ok-explained_response-in-Ok : goal.returns-in_ok-explained_response-in-Ok
returns-in_ok-explained_response-in-Ok c =
    let s = c.args.schema.now in
    let form = c.args.form in
    let found = c.in-Ok.found in
    record {
      response = subst (λ (r : ResponseValue). ExplainsCuts s form r) (sym c.in_ok-explained_response-in-Ok.ensures.says)
          (explains_cuts s form (scheme_sets found.plan) found.reasons.items c.in-Ok.ensures.split c.in-Ok.ensures.reasons);
    }

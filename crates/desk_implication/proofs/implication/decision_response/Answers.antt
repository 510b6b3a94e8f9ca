-- What is left to prove of `decision_response`: what `counterexample_response` requires, and that the two
-- tuples that it shows are a counterexample.
use Rattle.std.proofs.Common.{inr}
use Rattle.std.proofs.lemmas.Result.{IfOk-weaker}
use Rattle.attr_sets.specs.Sets.{attributes}
use Rattle.dep_basis.specs.Decisions.{IsBrokenBy}
use Rattle.dep_model.specs.Deps.{dependency_of}
use Rattle.schema_model.specs.Schemas.{names_of, width_of, theory_of}
use Rattle.typed_rows.specs.Shown.{shown_tuples}
use Rattle.typed_rows.proofs.ShownLemmas.{broken_within}
use Rattle.counterexample_laws.proofs.ShownTuples.{legal_counterexample}
use Rattle.desk_texts.specs.Texts.{no_text}
use Rattle.desk_responses.specs.ResponseValues.{Says}
use Rattle.desk_responses.specs.Responses.{response_value}
use Rattle.desk_responses.specs.declared.status.Status.TheVariants.{No}
use Rattle.desk_implication.specs.Implication.{Decided}
use Rattle.desk_implication.proofs.implication.decision_response.Goals as goal

pub counterexample_response-requires : goal.counterexample_response-requires
counterexample_response-requires c =
    let s = c.args.schema.now in
    let agreement = attributes c.in-No.agreement in
    let broken : IsBrokenBy (width_of s) (theory_of s) (dependency_of c.args.dep) agreement =
    (rw (c.in-No.is, c.theory.ensures.theory) at c.in_ok-deriv.ensures.answer) in
    record { within = broken_within (width_of s) (theory_of s) (dependency_of c.args.dep) agreement broken }

pub returns-in-No : goal.returns-in-No
returns-in-No c =
    let s = c.args.schema.now in
    let d = dependency_of c.args.dep in
    let agreement = attributes c.in-No.agreement in
    let broken : IsBrokenBy (width_of s) (theory_of s) d agreement =
    (rw (c.in-No.is, c.theory.ensures.theory) at c.in_ok-deriv.ensures.answer) in
    record {
      response = IfOk-weaker c.counterexample_response.result
          (λ response. Says No (no_text (names_of s) (shown_tuples s agreement)) (response_value response))
          (λ response. Decided s d (response_value response))
          (λ response says. inr (
            λ implied. broken.breaks (implied _ broken.legal),
            (agreement, broken, legal_counterexample s agreement d broken.legal broken.breaks, says),
          ))
          c.counterexample_response.ensures.response;
    }

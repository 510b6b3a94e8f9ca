-- What is left to prove of `project_set`: what it answers, case by case.
use Rattle.std.proofs.Common.{◌≡◌, false, true, inl, inr, sym, subst, ap, ◌∙◌}
use Rattle.std.proofs.lemmas.Bool.{false≢true}
use Rattle.std.specs.Prelude.{All, List, ℕ}
use Rattle.attr_sets.specs.Attributes.{IsEmpty}
use Rattle.attr_sets.specs.Sets.{attributes}
use Rattle.dep_model.proofs.FailureLemmas.{refused_is}
use Rattle.dep_model.specs.declared.dep.Dep.{Dep}
use Rattle.dep_model.specs.Deps.{dependencies_of, IsDepWithin}
use Rattle.schema_model.specs.Schemas.{universe_of}
use Rattle.desk_responses.specs.ResponseValues.{Says}
use Rattle.desk_responses.specs.Responses.{response_value}
use Rattle.desk_responses.specs.declared.status.Status.TheVariants.{Yes}
use Rattle.desk_implication.specs.Projections.{projection_text}
use Rattle.desk_implication.proofs.projecting.project_set.Goals as goal

pub returns-then-is_empty : goal.returns-then-is_empty
returns-then-is_empty c = record {
  response = λ response is. inl (c.is_empty.ensures.empty.0 c.if-is_empty.true, c.empty_set_exit.ensures.says response is);
}

pub projection_response-requires-clause-not_empty : goal.projection_response-requires-clause-not_empty
projection_response-requires-clause-not_empty c empty = false≢true (sym c.if-is_empty.false ∙ c.is_empty.ensures.empty.1 empty)

pub refused_exit-requires-clause-not_empty : goal.refused_exit-requires-clause-not_empty
refused_exit-requires-clause-not_empty c empty = false≢true (sym c.if-is_empty.false ∙ c.is_empty.ensures.empty.1 empty)

pub projection_response-requires-clause-rules : goal.projection_response-requires-clause-rules
projection_response-requires-clause-rules c =
    let u = universe_of c.args.schema.now in
    subst (λ (ds : List Dep). All (IsDepWithin u) ds) (sym c.deref.ensures.value)
    (λ k d l. let inside = c.in-Ok.ensures.within k d l in ((λ j m. c.requires.within j (inside.0 j m)), (λ j m. c.requires.within j (inside.1 j m))))

pub refused_exit-requires-clause-refused : goal.refused_exit-requires-clause-refused
refused_exit-requires-clause-refused c = refused_is _ _ _ c.in-Err-Refused.field-0-is (rw (c.theory.ensures.theory) at c.in-Err-Refused.ensures.refused)

pub returns-in_ok-projection_response-in-Ok : goal.returns-in_ok-projection_response-in-Ok
returns-in_ok-projection_response-in-Ok c = record {
  response = inr (inr (
    dependencies_of c.in-Ok.rules.items,
    record {
      not_empty = λ empty. false≢true (sym c.if-is_empty.false ∙ c.is_empty.ensures.empty.1 empty);
      narrow = (rw (c.theory.ensures.theory) at c.in-Ok.ensures.narrow);
      projection = (rw (c.theory.ensures.theory) at c.in-Ok.ensures.projection);
      cover = (rw (c.theory.ensures.theory) at c.in-Ok.ensures.cover);
    },
    subst (λ (ds : List Dep). Says Yes (projection_text c.args.schema.now (attributes c.args.set) (dependencies_of ds)) (response_value c.in_ok-projection_response-in-Ok.field-0))
        c.deref.ensures.value c.in_ok-projection_response-in-Ok.ensures.says,
  ));
}

pub returns-in-Err-Refused : goal.returns-in-Err-Refused
returns-in-Err-Refused c = record { response = λ response is. inr (inl (c.refused_exit.ensures.says response is)) }

-- What is left to prove of `check_tested`: its clause, where the universe is not in the form, is in it, or is too wide.
use Rattle.std.proofs.Common.{◌≡◌, [], refl, ap, subst, ◌∙◌, inl, inr}
use Rattle.std.proofs.lemmas.List.Elements.{All-cons, All-nil}
use Rattle.std.specs.Prelude.{Option}
use Rattle.attr_sets.specs.Attributes.{Attributes, below}
use Rattle.attr_sets.specs.Sets.{attributes}
use Rattle.schema_model.specs.Schemas.{universe_of}
use Rattle.schema_printer.specs.Spelling.{printed_names_of}
use Rattle.which_form.specs.declared.forms.SchemeForms.{SchemeForms}
use Rattle.desk_responses.specs.Lines.{too_wide_text}
use Rattle.desk_responses.specs.ResponseValues.{Says}
use Rattle.desk_responses.specs.Responses.{response_value}
use Rattle.desk_responses.specs.declared.status.Status.TheVariants.{No, Refused}
use Rattle.desk_designs.specs.NormalForms.{PassesForm, violated_text}
use Rattle.desk_designs.specs.TestedSchemes.{AreFoundForms}
use Rattle.desk_designs.proofs.TestedLemmas.{alone_fails}
use Rattle.desk_designs.proofs.form.check_tested.Goals as goal

pub returns-in-Some-breach_of : goal.returns-in-Some-breach_of
returns-in-Some-breach_of c =
    let s = c.args.schema.now in
    let form = c.args.form in
    let x = attributes c.in-Some-breach_of.breach.lhs in
    let y = attributes c.in-Some-breach_of.breach.rhs in
    let whole : attributes c.full-scheme.result ≡ universe_of s = c.full-scheme.ensures.members ∙ ap below c.width.ensures.count in
    let are = subst (λ (found : Option SchemeForms). AreFoundForms s found) c.in-Some.is c.requires.found in
    let verdict = c.in-Some-breach_of.ensures.verdict s (universe_of s) are in
    record {
      response = λ response is. inr (
        universe_of s,
        alone_fails (PassesForm s form) (universe_of s),
        inr (
          are.testable,
          (
            x,
            y,
            verdict.named,
            subst (λ (u : Attributes). Says No (violated_text (printed_names_of s) form u x y) (response_value response)) whole
                (c.violation_exit.ensures.says response is),
          ),
        ),
      );
    }

pub returns-in_ok-in_form_response-in-None-breach_of : goal.returns-in_ok-in_form_response-in-None-breach_of
returns-in_ok-in_form_response-in-None-breach_of c =
    let s = c.args.schema.now in
    let form = c.args.form in
    let are = subst (λ (found : Option SchemeForms). AreFoundForms s found) c.in-Some.is c.requires.found in
    let verdict = c.in-None-breach_of.ensures.verdict s (universe_of s) are in
    record {
      response = inl (
        All-cons (PassesForm s form) (universe_of s) [] (record { narrow = are.testable; in_form = verdict.none.0 refl }) (All-nil (PassesForm s form)),
        c.in_ok-in_form_response-in-None-breach_of.ensures.says,
      );
    }

pub returns-in-None : goal.returns-in-None
returns-in-None c =
    let s = c.args.schema.now in
    let whole : attributes c.full-scheme.result ≡ universe_of s = c.full-scheme.ensures.members ∙ ap below c.width.ensures.count in
    let wide = subst (λ (found : Option SchemeForms). AreFoundForms s found) c.in-None.is c.requires.found in
    record {
      response = λ response is. inr (
        universe_of s,
        alone_fails (PassesForm s c.args.form) (universe_of s),
        inl (wide, subst (λ (x : Attributes). Says Refused (too_wide_text (printed_names_of s) x) (response_value response)) whole (c.too_wide_exit.ensures.says response is)),
      );
    }

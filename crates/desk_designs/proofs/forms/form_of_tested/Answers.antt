-- What is left to prove of `form_of_tested`: what `listed` requires, and its clause, of the universe.
use Rattle.std.proofs.Common.{◌≡◌, ℕ, List, [], ◌∷◌, sym, ap, subst, ◌∙◌, inr}
use Rattle.std.proofs.lemmas.List.Elements.{All-cons, All-nil}
use Rattle.std.specs.Prelude.{Option}
use Rattle.attr_sets.specs.Attributes.{Attributes, below}
use Rattle.attr_sets.specs.Sets.{attributes}
use Rattle.schema_model.specs.Schemas.{universe_of}
use Rattle.schema_printer.specs.Spelling.{printed_names_of}
use Rattle.which_form.specs.declared.forms.SchemeForms.{SchemeForms}
use Rattle.desk_responses.specs.Lines.{too_wide_text}
use Rattle.desk_responses.specs.ResponseValues.{Says}
use Rattle.desk_responses.specs.Responses.{response_value}
use Rattle.desk_responses.specs.declared.status.Status.TheVariants.{Refused}
use Rattle.desk_designs.specs.FormsOfSchemes.{IsTestable, ListsFormsOfPlan}
use Rattle.desk_designs.specs.TestedSchemes.{AreFormsOf, AreFoundForms, IsTestedScheme, tested_scheme}
use Rattle.desk_designs.proofs.TestedLemmas.{alone_fails}
use Rattle.desk_designs.proofs.forms.form_of_tested.Goals as goal

pub listed-requires : goal.listed-requires
listed-requires c =
    let s = c.args.schema.now in
    let whole : attributes c.full-scheme.result ≡ universe_of s = c.full-scheme.ensures.members ∙ ap below c.width.ensures.count in
    let are = subst (λ (found : Option SchemeForms). AreFoundForms s found) c.in-Some.is c.requires.found in
    record {
      tested = All-cons (IsTestedScheme s) (tested_scheme c.full-scheme.result c.in-Some.forms) []
          (subst (λ (x : Attributes). AreFormsOf s x c.in-Some.forms) (sym whole) are) (All-nil (IsTestedScheme s));
    }

pub returns-in_ok-listed-in-Some : goal.returns-in_ok-listed-in-Some
returns-in_ok-listed-in-Some c =
    let s = c.args.schema.now in
    let whole : attributes c.full-scheme.result ≡ universe_of s = c.full-scheme.ensures.members ∙ ap below c.width.ensures.count in
    record {
      response = subst (λ (x : Attributes). ListsFormsOfPlan s (x ∷ []) (response_value c.in_ok-listed-in-Some.field-0)) whole c.in_ok-listed-in-Some.ensures.lists;
    }

pub returns-in-None : goal.returns-in-None
returns-in-None c =
    let s = c.args.schema.now in
    let whole : attributes c.full-scheme.result ≡ universe_of s = c.full-scheme.ensures.members ∙ ap below c.width.ensures.count in
    let wide = subst (λ (found : Option SchemeForms). AreFoundForms s found) c.in-None.is c.requires.found in
    record {
      response = λ response is. inr (
        universe_of s,
        alone_fails (IsTestable s) (universe_of s),
        wide,
        subst (λ (x : Attributes). Says Refused (too_wide_text (printed_names_of s) x) (response_value response)) whole (c.too_wide_exit.ensures.says response is),
      );
    }

-- Schemes with what was found of them, and their texts: for the functions below `form_of_all` and
-- `forms_of_plan`, and those of a page. `Desk` does not cite it.
use Rattle.std.specs.Prelude.{ℕ, List, [], ◌++◌, Option, Some, None, map}
use Rattle.attr_sets.specs.Attributes.{Attributes}
use Rattle.attr_sets.specs.declared.set.AttrSet.{AttrSet}
use Rattle.attr_sets.specs.Sets.{attributes}
use Rattle.schema_model.specs.Schemas.{width_of, theory_of, universe_of}
use Rattle.schema_model.specs.Schemas.{Schema}
use Rattle.dep_model.specs.declared.form.Form.TheVariants.{Third, Bcnf, Fourth}
use Rattle.fd_closure.specs.LeftSides.{IsWideScheme}
use Rattle.normal_forms.specs.declared.forms.Breach.{Breach}
use Rattle.which_form.specs.declared.forms.TestedForm.{TestedForm}
use Rattle.which_form.specs.declared.forms.TestedForm.TheVariants.{Second, Higher}
use Rattle.which_form.specs.declared.forms.SchemeForms.{SchemeForms}
use Rattle.which_form.specs.Verdicts.{AreVerdicts}
use Rattle.desk_designs.specs.declared.forms.TestedScheme.{TestedScheme}
use Rattle.desk_designs.specs.FormsOfSchemes.{IsTestable, violation_line}

-- a scheme with its forms
abbrev pub tested_scheme : AttrSet → SchemeForms → TestedScheme
tested_scheme scheme forms = record { scheme = scheme; forms = forms }

-- these are the forms of a scheme that is narrow enough to be tested
pub record AreFormsOf (schema : Schema) (scheme : Attributes) (forms : SchemeForms) : Type 0 where
  pub testable : IsTestable schema scheme
  pub verdicts : AreVerdicts (width_of schema) (theory_of schema) scheme forms

-- what was found of the table of all attributes: its forms, or nothing where it is too wide to be tested
abbrev pub AreFoundForms : Schema → Option SchemeForms → Type 0
AreFoundForms schema (Some forms) = AreFormsOf schema (universe_of schema) forms
AreFoundForms schema None = IsWideScheme (theory_of schema) (universe_of schema)

-- what is kept with a scheme are its forms
abbrev pub IsTestedScheme : Schema → TestedScheme → Type 0
IsTestedScheme schema tested = AreFormsOf schema (attributes tested.scheme) tested.forms

-- the schemes that were tested, as sets of attributes
abbrev pub schemes_tested : List TestedScheme → List Attributes
schemes_tested found = map (λ (tested : TestedScheme). attributes tested.scheme) found

-- the line of what violates a form; nothing where there is no violation
abbrev pub breach_text : List (List ℕ) → TestedForm → Option Breach → List ℕ
breach_text names form (Some breach) = violation_line names form (attributes breach.lhs) (attributes breach.rhs)
breach_text names form None = []

-- the lines of what violates each of the forms, in their order
abbrev pub breaches_text : List (List ℕ) → SchemeForms → List ℕ
breaches_text names forms =
    breach_text names Second forms.second ++ breach_text names (Higher Third) forms.third
    ++ breach_text names (Higher Bcnf) forms.bcnf ++ breach_text names (Higher Fourth) forms.fourth

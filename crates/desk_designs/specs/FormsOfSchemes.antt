-- Which form each scheme is in: for `form SCHEMA` and `form SCHEMA PLAN`.
use Rattle.std.specs.Prelude.{◌≡◌, ◌⊎◌, ℕ, List, [], ◌∷◌, ◌++◌, Option, Some, None, codes, All}
use Rattle.attr_sets.specs.Attributes.{Attributes}
use Rattle.schema_model.specs.Schemas.{width_of, theory_of, universe_of}
use Rattle.schema_model.specs.Schemas.{Schema}
use Rattle.dep_model.specs.declared.form.Form.TheVariants.{Third, Bcnf, Fourth}
use Rattle.fd_closure.specs.LeftSides.{IsWideScheme}
use Rattle.which_form.specs.declared.forms.TestedForm.{TestedForm}
use Rattle.which_form.specs.declared.forms.TestedForm.TheVariants.{Second, Higher}
use Rattle.which_form.specs.Tested.{IsInTested, IsNamedViolation}
use Rattle.which_form.specs.Verdicts.{IsLastForm}
use Rattle.schema_printer.specs.Printing.{set_text, dependency_text}
use Rattle.schema_printer.specs.Spelling.{printed_names_of}
use Rattle.desk_responses.specs.declared.status.Status.TheVariants.{Yes, Refused}
use Rattle.desk_responses.specs.ResponseValues.{Allowed, Says, IsFirstFailing}
use Rattle.desk_responses.specs.Lines.{too_wide_text}
use Rattle.desk_texts.specs.Texts.{line}
use Rattle.desk_designs.specs.NormalForms.{tested_word, tested_violation_of}

-- ---- texts
-- the word of the last form such that a scheme is in it and in all before it
abbrev pub last_word : Option TestedForm → List ℕ
last_word None = codes "1nf"
last_word (Some form) = tested_word form

-- a scheme, and its form
abbrev pub form_line : List (List ℕ) → Attributes → Option TestedForm → List ℕ
form_line names scheme last =
    line (codes "scheme " ++ set_text names scheme ++ codes ": " ++ last_word last)

-- what violates a form
abbrev pub violation_line : List (List ℕ) → TestedForm → Attributes → Attributes → List ℕ
violation_line names form x y =
    line (codes "  " ++ tested_word form ++ codes " violated by "
    ++ dependency_text names (tested_violation_of form x y))

-- ---- answers
-- what stands of a form below a scheme: nothing exactly where the scheme is in it, else the violation that
-- `check form` names
abbrev pub IsViolationText : Schema → Attributes → TestedForm → List ℕ → Type 0
IsViolationText schema scheme form text =
    (IsInTested (width_of schema) (theory_of schema) form scheme × (text ≡ []))
    ⊎ ((IsInTested (width_of schema) (theory_of schema) form scheme → ⊥)
    × ((x : Attributes) × (y : Attributes)
    × IsNamedViolation (width_of schema) (theory_of schema) form scheme x y
    × (text ≡ violation_line (printed_names_of schema) form x y)))

-- the lines of a scheme: its form, and what violates each of the forms that it is not in, in their order
pub record IsSchemeText (schema : Schema) (scheme : Attributes) (text : List ℕ) : Type 0 where
  pub last : Option TestedForm
  pub second : List ℕ
  pub third : List ℕ
  pub bcnf : List ℕ
  pub fourth : List ℕ
  pub is_last : IsLastForm (width_of schema) (theory_of schema) scheme last
  pub of_second : IsViolationText schema scheme Second second
  pub of_third : IsViolationText schema scheme (Higher Third) third
  pub of_bcnf : IsViolationText schema scheme (Higher Bcnf) bcnf
  pub of_fourth : IsViolationText schema scheme (Higher Fourth) fourth
  pub is : text ≡ form_line (printed_names_of schema) scheme last ++ second ++ third ++ bcnf ++ fourth

-- the lines of each scheme of a plan, in its order
abbrev pub ArePlanTexts : Schema → List Attributes → List ℕ → Type 0
ArePlanTexts schema [] text = text ≡ []
ArePlanTexts schema (scheme ∷ plan) text =
    (front : List ℕ) × (back : List ℕ) × IsSchemeText schema scheme front × ArePlanTexts schema plan back
    × (text ≡ front ++ back)

-- a scheme is narrow enough to be tested
abbrev pub IsTestable : Schema → Attributes → Type 0
IsTestable schema scheme = IsWideScheme (theory_of schema) scheme → ⊥

-- refused, for the first scheme that is too wide
abbrev pub RefusesWide : Schema → List Attributes → Allowed
RefusesWide schema plan response =
    (scheme : Attributes) × IsFirstFailing (IsTestable schema) plan scheme
    × IsWideScheme (theory_of schema) scheme
    × Says Refused (too_wide_text (printed_names_of schema) scheme) response

-- yes, with the form of each scheme, where each is narrow enough to be tested; else refused, as by
-- `check form`
abbrev pub ListsFormsOfPlan : Schema → List Attributes → Allowed
ListsFormsOfPlan schema plan response =
    (All (IsTestable schema) plan
    × ((text : List ℕ) × ArePlanTexts schema plan text × Says Yes text response))
    ⊎ RefusesWide schema plan response

-- the same of the table of all attributes
abbrev pub ListsFormOfAll : Schema → Allowed
ListsFormOfAll schema = ListsFormsOfPlan schema (universe_of schema ∷ [])

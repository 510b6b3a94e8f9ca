-- Whether the schemes of a plan are in a normal form: for `check form`.
use Rattle.std.specs.Prelude.{◌⊎◌, ℕ, List, ◌++◌, codes, All}
use Rattle.attr_sets.specs.Attributes.{Attributes}
use Rattle.dep_model.specs.Dependencies.{Dependency, fd, mvd}
use Rattle.schema_model.specs.Schemas.{width_of, theory_of}
use Rattle.schema_model.specs.Schemas.{Schema}
use Rattle.dep_model.specs.declared.form.Form.{Form}
use Rattle.dep_model.specs.declared.form.Form.TheVariants.{Third, Bcnf, Fourth}
use Rattle.fd_closure.specs.LeftSides.{IsWideScheme}
use Rattle.which_form.specs.declared.forms.TestedForm.{TestedForm}
use Rattle.which_form.specs.declared.forms.TestedForm.TheVariants.{Second, Higher}
use Rattle.which_form.specs.Tested.{IsInTested, IsNamedViolation}
use Rattle.schema_printer.specs.Printing.{set_text, dependency_text}
use Rattle.schema_printer.specs.Spelling.{printed_names_of}
use Rattle.desk_responses.specs.declared.status.Status.TheVariants.{Yes, No, Refused}
use Rattle.desk_responses.specs.ResponseValues.{Allowed, Says, IsFirstFailing}
use Rattle.desk_responses.specs.Lines.{too_wide_text}
use Rattle.desk_texts.specs.Texts.{line}

-- ---- texts
-- the word of a normal form
abbrev pub form_word : Form → List ℕ
form_word Third = codes "3nf"
form_word Bcnf = codes "bcnf"
form_word Fourth = codes "4nf"

-- the word of a form that a scheme is tested for
abbrev pub tested_word : TestedForm → List ℕ
tested_word Second = codes "2nf"
tested_word (Higher form) = form_word form

abbrev pub in_form_text : TestedForm → List ℕ
in_form_text form = line (codes "every scheme is in " ++ tested_word form)

-- a violation, as a dependency
abbrev pub violation_of : Form → Attributes → Attributes → Dependency
violation_of Third x y = fd x y
violation_of Bcnf x y = fd x y
violation_of Fourth x y = mvd x y

abbrev pub tested_violation_of : TestedForm → Attributes → Attributes → Dependency
tested_violation_of Second x y = fd x y
tested_violation_of (Higher form) x y = violation_of form x y

-- a scheme, and what violates the form on it
abbrev pub violated_text : List (List ℕ) → TestedForm → Attributes → Attributes → Attributes → List ℕ
violated_text names form scheme x y =
    line (codes "scheme " ++ set_text names scheme)
    ++ line (codes "violated by " ++ dependency_text names (tested_violation_of form x y))

-- ---- answers
-- a scheme does not end the test of a plan: it is narrow enough to be tested, and in the form
pub record PassesForm (schema : Schema) (form : TestedForm) (scheme : Attributes) : Type 0 where
  pub narrow : IsWideScheme (theory_of schema) scheme → ⊥
  pub in_form : IsInTested (width_of schema) (theory_of schema) form scheme

-- a scheme ends the test: it is too wide, or narrow and violates the form
abbrev pub EndsForm : Schema → TestedForm → Attributes → Allowed
EndsForm schema form scheme response =
    (IsWideScheme (theory_of schema) scheme × Says Refused (too_wide_text (printed_names_of schema) scheme) response)
    ⊎ ((IsWideScheme (theory_of schema) scheme → ⊥)
    × ((x : Attributes) × (y : Attributes) × IsNamedViolation (width_of schema) (theory_of schema) form scheme x y
    × Says No (violated_text (printed_names_of schema) form scheme x y) response))

-- yes exactly where every scheme passes; else the first that does not decides: refused where it is too
-- wide, and no, with what violates the form, where it is not
abbrev pub JudgesForm : Schema → TestedForm → List Attributes → Allowed
JudgesForm schema form plan response =
    (All (PassesForm schema form) plan × Says Yes (in_form_text form) response)
    ⊎ ((scheme : Attributes) × IsFirstFailing (PassesForm schema form) plan scheme
    × EndsForm schema form scheme response)

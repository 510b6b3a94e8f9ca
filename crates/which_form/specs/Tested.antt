-- The normal forms that a scheme is tested for, and which violation is named of each: for
-- `tested_violation`, and `check form` (`desk_designs/NormalForms`).
use Rattle.std.specs.Prelude.{ℕ, List}
use Rattle.attr_sets.specs.Attributes.{Attributes}
use Rattle.dep_model.specs.Dependencies.{Dependency, functional_part}
use Rattle.normal_forms.specs.Chosen.{IsInForm, IsChosenViolation}
use Rattle.which_form.specs.declared.forms.TestedForm.{TestedForm}
use Rattle.which_form.specs.declared.forms.TestedForm.TheVariants.{Second, Higher}
use Rattle.which_form.specs.SecondForm.{IsSecond, IsFirstInSecond}

-- a scheme is in a form
abbrev pub IsInTested : ℕ → List Dependency → TestedForm → Attributes → Type 0
IsInTested n ds Second scheme = IsSecond n ds scheme
IsInTested n ds (Higher form) scheme = IsInForm n ds form scheme

-- x with the right side y is the violation that is named: the first in the order of sets. Second form goes
-- by the functional part, as third does
abbrev pub IsNamedViolation : ℕ → List Dependency → TestedForm → Attributes → Attributes → Attributes
    → Type 0
IsNamedViolation n ds Second scheme x y = IsFirstInSecond n (functional_part ds) scheme x y
IsNamedViolation n ds (Higher form) scheme x y = IsChosenViolation n ds form scheme x y

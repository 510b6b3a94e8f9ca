-- Which of the forms a scheme is in: for `scheme_forms`, `last_form`, and `form`
-- (`desk_designs/FormsOfSchemes`).
use Rattle.std.specs.Prelude.{ℕ, ◌↔◌, List, Option, Some, None, IsNone, IfSome}
use Rattle.attr_sets.specs.Attributes.{Attributes}
use Rattle.attr_sets.specs.Sets.{attributes}
use Rattle.dep_model.specs.Dependencies.{Dependency}
use Rattle.dep_model.specs.Forms.{IsThird, IsBcnf, IsFourth}
use Rattle.dep_model.specs.declared.form.Form.TheVariants.{Third, Bcnf, Fourth}
use Rattle.normal_forms.specs.declared.forms.Breach.{Breach}
use Rattle.which_form.specs.declared.forms.TestedForm.{TestedForm}
use Rattle.which_form.specs.declared.forms.TestedForm.TheVariants.{Second, Higher}
use Rattle.which_form.specs.declared.forms.SchemeForms.{SchemeForms}
use Rattle.which_form.specs.SecondForm.{IsSecond}
use Rattle.which_form.specs.Tested.{IsInTested, IsNamedViolation}

-- what is found of a form: nothing where the scheme is in it, else the violation that is named
pub record IsVerdict (n : ℕ) (ds : List Dependency) (scheme : Attributes) (form : TestedForm)
    (found : Option Breach) : Type 0 where
  pub none : IsNone found ↔ IsInTested n ds form scheme
  pub named : IfSome found (λ breach.
      IsNamedViolation n ds form scheme (attributes breach.lhs) (attributes breach.rhs))

-- what is found of each
pub record AreVerdicts (n : ℕ) (ds : List Dependency) (scheme : Attributes) (forms : SchemeForms)
    : Type 0 where
  pub second : IsVerdict n ds scheme Second forms.second
  pub third : IsVerdict n ds scheme (Higher Third) forms.third
  pub bcnf : IsVerdict n ds scheme (Higher Bcnf) forms.bcnf
  pub fourth : IsVerdict n ds scheme (Higher Fourth) forms.fourth

-- the last form such that the scheme is in it and in all before it, from first form on, in which every
-- scheme is
abbrev pub IsLastForm : ℕ → List Dependency → Attributes → Option TestedForm → Type 0
IsLastForm n ds scheme None = IsSecond n ds scheme → ⊥
IsLastForm n ds scheme (Some Second) = IsSecond n ds scheme × (IsThird n ds scheme → ⊥)
IsLastForm n ds scheme (Some (Higher Third)) =
    IsSecond n ds scheme × IsThird n ds scheme × (IsBcnf n ds scheme → ⊥)
IsLastForm n ds scheme (Some (Higher Bcnf)) =
    IsSecond n ds scheme × IsThird n ds scheme × IsBcnf n ds scheme × (IsFourth n ds scheme → ⊥)
IsLastForm n ds scheme (Some (Higher Fourth)) =
    IsSecond n ds scheme × IsThird n ds scheme × IsBcnf n ds scheme × IsFourth n ds scheme

-- Which violation of a form is named of a scheme: for `violation`, `visible_violation`, `check form`
-- (`desk_designs/NormalForms`) and split_forms.
use Rattle.std.specs.Prelude.{◌≡◌, ℕ, List, Some, All, take, slice_get}
use Rattle.attr_sets.specs.Attributes.{Attributes, IsSubset, IsBefore}
use Rattle.dep_model.specs.Dependencies.{Dependency, left_of}
use Rattle.dep_model.specs.Forms.{IsThird, IsBcnf, IsFourth}
use Rattle.dep_model.specs.declared.form.Form.{Form}
use Rattle.dep_model.specs.declared.form.Form.TheVariants.{Third, Bcnf, Fourth}
use Rattle.normal_forms.specs.Violations.{Violates}

-- a scheme is in a normal form
abbrev pub IsInForm : ℕ → List Dependency → Form → Attributes → Type 0
IsInForm n ds Third scheme = IsThird n ds scheme
IsInForm n ds Bcnf scheme = IsBcnf n ds scheme
IsInForm n ds Fourth scheme = IsFourth n ds scheme

-- x is the first subset of the scheme that violates the form, in the order of sets, with the
-- right side y
pub record IsChosenViolation (n : ℕ) (ds : List Dependency) (form : Form)
    (scheme x y : Attributes) : Type 0 where
  pub within : IsSubset x scheme
  pub violates : Violates n ds form scheme x y
  pub first : (v w : Attributes) → IsBefore v x → Violates n ds form scheme v w → ⊥

-- the left side of a dependency is no violation of the form, whatever the right side
abbrev pub IsNoViolation : ℕ → List Dependency → Form → Attributes → Dependency → Type 0
IsNoViolation n ds form scheme d = (y : Attributes) → Violates n ds form scheme (left_of d) y → ⊥

-- no given left side violates the form
abbrev pub HasNoVisibleViolation : ℕ → List Dependency → Form → Attributes → Type 0
HasNoVisibleViolation n ds form scheme = All (IsNoViolation n ds form scheme) ds

-- x is the first given left side, in the order of the file, that violates the form, with the
-- right side y
pub record IsVisibleViolation (n : ℕ) (ds : List Dependency) (form : Form)
    (scheme x y : Attributes) : Type 0 where
  pub position : ℕ
  pub given : Dependency
  pub stands : slice_get ds position ≡ Some given
  pub left : x ≡ left_of given
  pub violates : Violates n ds form scheme x y
  pub first : All (IsNoViolation n ds form scheme) (take position ds)

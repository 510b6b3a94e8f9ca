-- The decomposition by violations, step by step: for `split`, the laws of split_forms and the
-- command `split` (`desk_designs/Decompositions`).
use Rattle.std.specs.Prelude.{◌≡◌, ℕ, ◌+◌, ◌≤◌, ◌⊎◌, List, ◌∷◌, ◌++◌, length, All}
use Rattle.attr_sets.specs.Attributes.{Attributes}
use Rattle.attr_sets.specs.declared.set.AttrSet.{AttrSet}
use Rattle.dep_model.specs.Dependencies.{Dependency}
use Rattle.dep_model.specs.Plans.{schemes_of}
use Rattle.plans.specs.Containing.{without_contained}
use Rattle.dep_model.specs.declared.form.Form.{Form}
use Rattle.fd_closure.specs.LeftSides.{IsWideScheme}
use Rattle.normal_forms.specs.Chosen.{IsInForm, IsChosenViolation, HasNoVisibleViolation, IsVisibleViolation}
use Rattle.split_forms.specs.Lists.{IsSplitStep, ReachedIn}

-- a scheme stays whole: it is not too wide to be searched, and is in the form
pub record StaysWhole (n : ℕ) (ds : List Dependency) (form : Form) (scheme : Attributes) : Type 0 where
  pub narrow : IsWideScheme ds scheme → ⊥
  pub in_form : IsInForm n ds form scheme

-- x and y are what a scheme is cut by: its chosen violation, or the visible one of a wide scheme
abbrev pub IsCutBy : ℕ → List Dependency → Form → Attributes → Attributes → Attributes → Type 0
IsCutBy n ds form scheme x y =
    ((IsWideScheme ds scheme → ⊥) × IsChosenViolation n ds form scheme x y)
    ⊎ (IsWideScheme ds scheme × IsVisibleViolation n ds form scheme x y)

-- a scheme can neither be tested nor cut: it is wide, and no given left side violates the form
pub record IsStuckScheme (n : ℕ) (ds : List Dependency) (form : Form) (scheme : Attributes) : Type 0 where
  pub wide : IsWideScheme ds scheme
  pub none : HasNoVisibleViolation n ds form scheme

-- the list after another: its first scheme that does not stay whole is cut in its place
abbrev pub IsNextList : ℕ → List Dependency → Form → List Attributes → List Attributes → Type 0
IsNextList n ds form schemes after = IsSplitStep (StaysWhole n ds form) (IsCutBy n ds form) schemes after

-- any number of steps lead from the universe to a list
abbrev pub ReachedList : ℕ → List Dependency → Form → List Attributes → Type 0
ReachedList n ds form schemes =
    (count : ℕ) × ReachedIn n (StaysWhole n ds form) (IsCutBy n ds form) count schemes

-- a reached list in which all schemes stay whole
pub record FinishedList (n : ℕ) (ds : List Dependency) (form : Form) (schemes : List Attributes) : Type 0 where
  pub reached : ReachedList n ds form schemes
  pub whole : All (StaysWhole n ds form) schemes

-- the first scheme of a list that does not stay whole is stuck
pub record IsStuckAt (n : ℕ) (ds : List Dependency) (form : Form) (schemes : List Attributes) (scheme : Attributes)
    : Type 0 where
  pub earlier : List Attributes
  pub later : List Attributes
  pub list : schemes ≡ earlier ++ scheme ∷ later
  pub whole : All (StaysWhole n ds form) earlier
  pub stuck : IsStuckScheme n ds form scheme

-- a reached list of so many schemes at most is stuck at a scheme
pub record IsTooWideAt (n : ℕ) (ds : List Dependency) (form : Form) (limit : ℕ) (scheme : Attributes)
    : Type 0 where
  pub schemes : List Attributes
  pub reached : ReachedList n ds form schemes
  pub within_limit : length schemes ≤ limit
  pub stuck : IsStuckAt n ds form schemes scheme

-- a reached list has one scheme more than so many
pub record HasTooManySchemes (n : ℕ) (ds : List Dependency) (form : Form) (limit : ℕ) : Type 0 where
  pub schemes : List Attributes
  pub reached : ReachedList n ds form schemes
  pub many : length schemes ≡ limit + 1

-- a plan is a finished list without contained schemes
pub record IsSplitPlan (n : ℕ) (ds : List Dependency) (form : Form) (plan : List AttrSet) : Type 0 where
  pub all : List AttrSet
  pub finished : FinishedList n ds form (schemes_of all)
  pub kept : plan ≡ without_contained all

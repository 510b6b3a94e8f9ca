-- Left sides that violate a form, whatever the right side: for the functions below `violation`.
-- `Desk` does not cite it.
use Rattle.std.specs.Prelude.{ℕ, List}
use Rattle.attr_sets.specs.Attributes.{Attributes, intersection, IsSubset, IsBefore}
use Rattle.dep_model.specs.Dependencies.{Dependency, functional_part}
use Rattle.dep_model.specs.Keys.{IsSuperkey}
use Rattle.dep_basis.specs.Parts.{HasTwoParts}
use Rattle.dep_model.specs.declared.form.Form.{Form}
use Rattle.dep_model.specs.declared.form.Form.TheVariants.{Third, Bcnf, Fourth}
use Rattle.normal_forms.specs.Violations.{DeterminesBeyond, DeterminesNonPrime}

-- what shows that a left side which is no superkey violates a form
abbrev pub ShowsViolation : ℕ → List Dependency → Form → Attributes → Attributes → Type 0
ShowsViolation n ds Third scheme x = (a : ℕ) × DeterminesNonPrime n (functional_part ds) scheme x a
ShowsViolation n ds Bcnf scheme x = (a : ℕ) × DeterminesBeyond n ds scheme x a
ShowsViolation n ds Fourth scheme x = HasTwoParts n ds scheme x

-- a left side violates Boyce-Codd or fourth form, whatever its right side
abbrev pub Breaks : ℕ → List Dependency → Form → Attributes → Attributes → Type 0
Breaks n ds form scheme x = (IsSuperkey n ds scheme x → ⊥) × ShowsViolation n ds form scheme x

-- of the subsets of a set, x is the first that violates a form on a scheme
pub record IsFirstBreaking (n : ℕ) (ds : List Dependency) (form : Form)
    (scheme whole x : Attributes) : Type 0 where
  pub within : IsSubset x whole
  pub breaks : Breaks n ds form scheme x
  pub first : (v : Attributes) → IsSubset v whole → IsBefore v x → Breaks n ds form scheme v → ⊥

-- no subset of a set violates a form on a scheme
abbrev pub NoneBreaks : ℕ → List Dependency → Form → Attributes → Attributes → Type 0
NoneBreaks n ds form scheme whole = (x : Attributes) → IsSubset x whole → Breaks n ds form scheme x → ⊥

-- what violates a form does so by what it has of a set
abbrev pub IsEnough : ℕ → List Dependency → Form → Attributes → Attributes → Type 0
IsEnough n ds form scheme whole =
    (x : Attributes) → Breaks n ds form scheme x → Breaks n ds form scheme (intersection x whole)

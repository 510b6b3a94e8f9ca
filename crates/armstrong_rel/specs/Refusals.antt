-- Why a schema has no exhibit: for `exhibit` and the command of that name
-- (`desk_exhibits/Exhibits`).
use Rattle.std.specs.Prelude.{◌≡◌, ℕ, ◌<◌, ◌≤◌, true, Some, List, length, All, AllPairs, slice_get, take}
use Rattle.attr_sets.specs.Attributes.{Attributes, IsBefore, count_below}
use Rattle.attr_sets.specs.declared.set.TheConstants.{MOST_ATTRIBUTES}
use Rattle.dep_model.specs.Theories.{Theory}
use Rattle.dep_model.specs.Dependencies.{Dependency, mvd, is_fd, functional_part}
use Rattle.dep_model.specs.Theories.{width_of, theory_of}
use Rattle.fd_closure.specs.LeftSides.{left_sides}
use Rattle.armstrong_rel.specs.declared.refusal.ExhibitRefusal.{ExhibitRefusal}
use Rattle.armstrong_rel.specs.declared.refusal.ExhibitRefusal.TheVariants.{NotFunctional, TooWide, TooManyRows}
use Rattle.armstrong_rel.specs.declared.refusal.TheConstants.{WIDEST_EXHIBITED, MOST_EXHIBITED_ROWS}
use Rattle.armstrong_rel.specs.ClosedSets.{IsIrreducible}

-- dependency k, from 0, is the first multivalued one of a list
pub record IsFirstMvd (ds : List Dependency) (k : ℕ) : Type 0 where
  pub lhs : Attributes
  pub rhs : Attributes
  pub given : slice_get ds k ≡ Some (mvd lhs rhs)
  pub earlier : All (λ d. is_fd d ≡ true) (take k ds)

-- all dependencies of a schema are functional
abbrev pub IsFunctional : Theory → Type 0
IsFunctional s = functional_part (theory_of s) ≡ theory_of s

-- more attributes than are exhibited stand in left sides
abbrev pub IsTooWideToExhibit : Theory → Type 0
IsTooWideToExhibit s = WIDEST_EXHIBITED < count_below (left_sides (theory_of s)) MOST_ATTRIBUTES

-- so many irreducible closed sets, ascending and so all different, that with the row of all `0` a
-- relation of them has more rows than an exhibit may have
pub record AreTooMany (n : ℕ) (ds : List Dependency) (sets : List Attributes) : Type 0 where
  pub each : All (IsIrreducible n ds) sets
  pub ascending : AllPairs IsBefore sets
  pub count : MOST_EXHIBITED_ROWS ≤ length sets

-- a schema has so many
abbrev pub HasTooManyRows : Theory → Type 0
HasTooManyRows s = (sets : List Attributes) × AreTooMany (width_of s) (theory_of s) sets

-- why a schema has no exhibit
abbrev pub IsRefusedExhibit : Theory → ExhibitRefusal → Type 0
IsRefusedExhibit s (NotFunctional dep) = IsFirstMvd (theory_of s) dep
IsRefusedExhibit s TooWide = IsFunctional s × IsTooWideToExhibit s
IsRefusedExhibit s TooManyRows = IsFunctional s × (IsTooWideToExhibit s → ⊥) × HasTooManyRows s

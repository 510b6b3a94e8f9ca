-- Why the functional dependencies inside a set are not listed: for `project` and the command of that
-- name.
use Rattle.std.specs.Prelude.{ℕ, ◌<◌, List, length, All, AllPairs}
use Rattle.attr_sets.specs.Attributes.{Attributes}
use Rattle.dep_model.specs.Dependencies.{Dependency}
use Rattle.fd_closure.specs.LeftSides.{IsWideScheme}
use Rattle.fd_projection.specs.declared.refusal.ProjectionRefusal.{ProjectionRefusal}
use Rattle.fd_projection.specs.declared.refusal.ProjectionRefusal.TheVariants.{TooWide, TooMany}
use Rattle.fd_projection.specs.declared.refusal.TheConstants.{MOST_LISTED}
use Rattle.fd_projection.specs.Projections.{IsMinimalFd, Precedes}

-- minimal dependencies inside a set, in order and so all different, more than are listed
pub record AreTooMany (n : ℕ) (ds : List Dependency) (set : Attributes)
    (found : List Dependency) : Type 0 where
  pub each : All (IsMinimalFd n ds set) found
  pub ascending : AllPairs Precedes found
  pub count : MOST_LISTED < length found

-- why they are not listed: too many attributes of the set stand in left sides, or else there are too
-- many of them
abbrev pub IsRefusedProjection : ℕ → List Dependency → Attributes → ProjectionRefusal → Type 0
IsRefusedProjection n ds set TooWide = IsWideScheme ds set
IsRefusedProjection n ds set TooMany =
    (IsWideScheme ds set → ⊥) × ((found : List Dependency) × AreTooMany n ds set found)

-- The dependencies of a schema that another does not imply: for `differences` and `check same`
-- (`desk_covers/Sameness`).
use Rattle.std.specs.Prelude.{◌≡◌, ℕ, ◌<◌, ◌⊎◌, List, AllPairs, Contains, slice_get, Some}
use Rattle.schema_model.specs.Schemas.{Schema}
use Rattle.dep_model.specs.Dependencies.{Dependency}
use Rattle.schema_model.specs.Schemas.{theory_of}
use Rattle.schema_match.specs.Carried.{FollowsInSchema}

-- the dependency of this number, from 0 in the order of the file, does not follow from another schema
abbrev pub IsDifference : Schema → Schema → ℕ → Type 0
IsDifference schema other k =
    (d : Dependency) × (slice_get (theory_of schema) k ≡ Some d) × (FollowsInSchema other schema d → ⊥)

-- the numbers of exactly those dependencies of a schema that do not follow from another, ascending
pub record AreDifferences (schema other : Schema) (numbers : List ℕ) : Type 0 where
  pub each : (k : ℕ) → Contains numbers k → IsDifference schema other k
  pub all : (k : ℕ) (d : Dependency) → slice_get (theory_of schema) k ≡ Some d
      → Contains numbers k ⊎ FollowsInSchema other schema d
  pub ascending : AllPairs (λ j k. j < k) numbers

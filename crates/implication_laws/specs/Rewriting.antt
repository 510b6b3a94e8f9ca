-- Schemas over the same names whose dependencies are written otherwise: for the laws of `implies`, `cover` and
-- `cover canonical`. `Desk` does not cite it.
use Rattle.std.specs.Prelude.{◌≡◌, ◌↔◌, ℕ, List, Contains}
use Rattle.dep_model.specs.Dependencies.{Dependency}
use Rattle.schema_model.specs.Schemas.{naming_of, names_of, types_of, nullable_of, theory_of}
use Rattle.schema_model.specs.Schemas.{Schema}
use Rattle.schema_grammar.specs.Schemas.{MeansSchema}
use Rattle.schema_grammar.specs.Texts.{declarations_of}
use Rattle.desk_responses.specs.ResponseValues.{Allowed, ResponseValue}
use Rattle.desk_responses.specs.declared.status.Status.TheVariants.{Yes}

-- two schemas with the same names, written alike, and with the same dependencies in any order
pub record HaveSameDependencies (schema other : Schema) : Type 0 where
  pub naming : naming_of schema ≡ naming_of other
  pub names : names_of schema ≡ names_of other
  pub each : (d : Dependency) → Contains (theory_of schema) d ↔ Contains (theory_of other) d

-- a schema with the names of another, and with these dependencies in place of its own
pub record IsSchemaWith (schema : Schema) (ds : List Dependency) (other : Schema) : Type 0 where
  pub naming : naming_of schema ≡ naming_of other
  pub names : names_of schema ≡ names_of other
  pub theory : theory_of other ≡ ds

-- the same, with columns of the same types, of which the same ones may lack values
pub record IsRewritten (schema : Schema) (ds : List Dependency) (other : Schema) : Type 0 where
  pub named : IsSchemaWith schema ds other
  pub columns : types_of schema ≡ types_of other
  pub nullable : nullable_of schema ≡ nullable_of other

-- a text means such a schema, and to it, beside the first, yes is always the answer
abbrev pub MeansConfirmed : (Schema → Schema → List ℕ → List ℕ → Allowed) → Schema → List Dependency → List ℕ → Type 0
MeansConfirmed Checks schema ds text =
    (other : Schema) × IsRewritten schema ds other × MeansSchema text (declarations_of other)
    × ((file other_file : List ℕ) (response : ResponseValue) → Checks schema other file other_file response
    → response.status ≡ Yes)

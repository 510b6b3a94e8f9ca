-- Two schemas over the same names that every command on implication answers alike: for the laws of `cover`,
-- `discover` and the order of lines. `Desk` does not cite it.
use Rattle.std.specs.Prelude.{◌≡◌, ℕ, List}
use Rattle.dep_model.specs.Dependencies.{Dependency}
use Rattle.schema_model.specs.Schemas.{Schema}
use Rattle.desk_implication.specs.Implication.{DecidesGoal}
use Rattle.desk_covers.specs.Sameness.{SayTheSame, ChecksSame}
use Rattle.desk_responses.specs.ResponseValues.{ResponseValue}
use Rattle.desk_responses.specs.declared.status.Status.TheVariants.{Yes}
use Rattle.implication_laws.specs.Rewriting.{IsSchemaWith}

-- the two say the same, `check same` answers yes whichever comes first, and `implies` answers each goal by the
-- same status
pub record AnswerAlike (schema other : Schema) : Type 0 where
  pub there : SayTheSame schema other
  pub back : SayTheSame other schema
  pub compared : (file other_file : List ℕ) (response : ResponseValue)
      → ChecksSame schema other file other_file response → response.status ≡ Yes
  pub compared_back : (file other_file : List ℕ) (response : ResponseValue)
      → ChecksSame other schema file other_file response → response.status ≡ Yes
  pub decided : (goal : List ℕ) (first second : ResponseValue)
      → DecidesGoal schema goal first → DecidesGoal other goal second → first.status ≡ second.status

-- these dependencies, in place of a schema's own, are answered alike
abbrev pub AnswersAlikeWith : Schema → List Dependency → Type 0
AnswersAlikeWith schema ds = (other : Schema) → IsSchemaWith schema ds other → AnswerAlike schema other

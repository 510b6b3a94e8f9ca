-- When words are answered, as the laws of `complete_reasons` say it: reasons. `Desk` does not cite it.
use Rattle.std.specs.Prelude.{ℕ, List, [], ◌∷◌, codes}
use Rattle.dep_model.specs.Dependencies.{Dependency}
use Rattle.schema_model.specs.Schemas.{Schema, theory_in}
use Rattle.key_listing.specs.Refusals.{IsTooWide}
use Rattle.desk_outside.specs.Files.{Files}
use Rattle.desk_arguments.specs.Goals.{IsGoal}
use Rattle.desk_inputs.specs.FileKinds.{IsFile}
use Rattle.desk_inputs.specs.Inputs.{schema_file}
use Rattle.desk_inputs.specs.Readings.{known_files}
use Rattle.desk_keys.specs.Keys.{HasManyKeys}
use Rattle.dep_model.specs.declared.form.Form.TheVariants as forms
use Rattle.desk_laws.specs.Completeness.{IsAnswered, HasPlanInForm}

-- `explain implies` is answered where the schema file means a schema and the goal a dependency
abbrev pub ExplainImpliesIsAnswered : Type 0
ExplainImpliesIsAnswered =
    (files : Files) (name goal : List ℕ) (schema : Schema) (dep : Dependency)
    → IsFile schema_file (known_files files) name schema → IsGoal schema goal dep
    → IsAnswered files (codes "explain" ∷ codes "implies" ∷ name ∷ goal ∷ [])

-- `explain cover` is answered where the schema file means a schema
abbrev pub ExplainCoverIsAnswered : Type 0
ExplainCoverIsAnswered =
    (files : Files) (name : List ℕ) (schema : Schema)
    → IsFile schema_file (known_files files) name schema
    → IsAnswered files (codes "explain" ∷ codes "cover" ∷ name ∷ [])

-- `explain keys` is answered where also the universe is not too wide, and has no more keys than are listed
abbrev pub ExplainKeysIsAnswered : Type 0
ExplainKeysIsAnswered =
    (files : Files) (name : List ℕ) (schema : Schema)
    → IsFile schema_file (known_files files) name schema
    → (IsTooWide (theory_in schema) → ⊥) → (HasManyKeys schema → ⊥)
    → IsAnswered files (codes "explain" ∷ codes "keys" ∷ name ∷ [])

-- `explain synthesize` is answered where the schema file means a schema
abbrev pub ExplainSynthesizeIsAnswered : Type 0
ExplainSynthesizeIsAnswered =
    (files : Files) (name : List ℕ) (schema : Schema)
    → IsFile schema_file (known_files files) name schema
    → IsAnswered files (codes "explain" ∷ codes "synthesize" ∷ name ∷ [])

-- `explain synthesize fewest` is answered where the schema file means a schema
abbrev pub ExplainFewestIsAnswered : Type 0
ExplainFewestIsAnswered =
    (files : Files) (name : List ℕ) (schema : Schema)
    → IsFile schema_file (known_files files) name schema
    → IsAnswered files (codes "explain" ∷ codes "synthesize" ∷ codes "fewest" ∷ name ∷ [])

-- `explain split` is answered where also the splitting meets no limit (`bcnf`)
abbrev pub ExplainSplitIsAnsweredBcnf : Type 0
ExplainSplitIsAnsweredBcnf =
    (files : Files) (name : List ℕ) (schema : Schema)
    → IsFile schema_file (known_files files) name schema → HasPlanInForm schema forms.Bcnf
    → IsAnswered files (codes "explain" ∷ codes "split" ∷ codes "bcnf" ∷ name ∷ [])

-- `explain split` is answered where also the splitting meets no limit (`fourth`)
abbrev pub ExplainSplitIsAnsweredFourth : Type 0
ExplainSplitIsAnsweredFourth =
    (files : Files) (name : List ℕ) (schema : Schema)
    → IsFile schema_file (known_files files) name schema → HasPlanInForm schema forms.Fourth
    → IsAnswered files (codes "explain" ∷ codes "split" ∷ codes "4nf" ∷ name ∷ [])

-- When words are answered, as the laws of `complete_derivations` say it: derivations. `Desk` does not cite it.
use Rattle.std.specs.Prelude.{ℕ, List, [], ◌∷◌, codes}
use Rattle.dep_model.specs.Dependencies.{Dependency}
use Rattle.derivation_grammar.specs.Lines.{DerivationLine}
use Rattle.schema_model.specs.Schemas.{Schema}
use Rattle.desk_arguments.specs.Goals.{IsGoal}
use Rattle.desk_inputs.specs.FileKinds.{IsFile}
use Rattle.desk_inputs.specs.Inputs.{derivation_file, schema_file}
use Rattle.desk_inputs.specs.Readings.{known_files}
use Rattle.desk_outside.specs.Files.{Files}
use Rattle.desk_laws.specs.Completeness.{IsAnswered}

-- `check derivation` is answered where the schema file means a schema, the derivation file lines, and the goal a
-- dependency
abbrev pub CheckDerivationIsAnswered : Type 0
CheckDerivationIsAnswered =
    (files : Files) (name file goal : List ℕ) (schema : Schema) (lines : List DerivationLine) (dep : Dependency)
    → IsFile schema_file (known_files files) name schema
    → IsFile (derivation_file schema) (known_files files) file lines → IsGoal schema goal dep
    → IsAnswered files (codes "check" ∷ codes "derivation" ∷ name ∷ file ∷ goal ∷ [])

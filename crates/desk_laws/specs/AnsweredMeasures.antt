-- When words are answered, as the laws of `complete_measures` say it: what is wrong with rows. `Desk` does not
-- cite it.
use Rattle.std.specs.Prelude.{ℕ, List, [], ◌∷◌, codes}
use Rattle.armstrong_rel.specs.Refusals.{IsFirstMvd}
use Rattle.schema_model.specs.Schemas.{theory_of}
use Rattle.dep_model.specs.Tuples.{Relation}
use Rattle.schema_model.specs.Schemas.{Schema}
use Rattle.desk_outside.specs.Files.{Files}
use Rattle.desk_inputs.specs.FileKinds.{IsFile}
use Rattle.desk_inputs.specs.Inputs.{schema_file}
use Rattle.desk_inputs.specs.Readings.{known_files}
use Rattle.desk_inputs.specs.Rows.{rows_file}
use Rattle.desk_measures.specs.Untyped.{HasTextsAlone}
use Rattle.desk_laws.specs.Completeness.{IsAnswered}

-- `measure` is answered where the schema file means a schema and the CSV file rows, of whatever values
abbrev pub MeasureIsAnswered : Type 0
MeasureIsAnswered =
    (files : Files) (name file : List ℕ) (schema texts : Schema) (rows : Relation)
    → IsFile schema_file (known_files files) name schema → HasTextsAlone schema texts
    → IsFile (rows_file texts) (known_files files) file rows
    → IsAnswered files (codes "measure" ∷ name ∷ file ∷ [])

-- `offences` is answered where the schema file means a schema and the CSV file rows (`by_class`)
abbrev pub OffencesIsAnsweredByClass : Type 0
OffencesIsAnsweredByClass =
    (files : Files) (name file : List ℕ) (schema : Schema) (rows : Relation)
    → IsFile schema_file (known_files files) name schema
    → IsFile (rows_file schema) (known_files files) file rows
    → IsAnswered files (codes "offences" ∷ name ∷ file ∷ [])

-- `offences` is answered where the schema file means a schema and the CSV file rows (`by_row`)
abbrev pub OffencesIsAnsweredByRow : Type 0
OffencesIsAnsweredByRow =
    (files : Files) (name file : List ℕ) (schema : Schema) (rows : Relation)
    → IsFile schema_file (known_files files) name schema
    → IsFile (rows_file schema) (known_files files) file rows
    → IsAnswered files (codes "offences" ∷ codes "rows" ∷ name ∷ file ∷ [])

-- `kept` is answered where also no dependency is multivalued
abbrev pub KeptIsAnswered : Type 0
KeptIsAnswered =
    (files : Files) (name file : List ℕ) (schema : Schema) (rows : Relation)
    → IsFile schema_file (known_files files) name schema
    → IsFile (rows_file schema) (known_files files) file rows
    → ((k : ℕ) → IsFirstMvd (theory_of schema) k → ⊥)
    → IsAnswered files (codes "kept" ∷ name ∷ file ∷ [])

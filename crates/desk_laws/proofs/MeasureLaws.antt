-- Where the schema file means a schema and the CSV file rows, what is wrong with them is said.
use Rattle.std.proofs.Common.{◌≡◌, ℕ, Bool, true, false, List, [], ◌∷◌, inl, inr, ap, subst}
use Rattle.std.specs.Prelude.{codes}
use Rattle.armstrong_rel.specs.Refusals.{IsFirstMvd}
use Rattle.schema_model.specs.Schemas.{theory_of}
use Rattle.dep_model.specs.Tuples.{Relation}
use Rattle.schema_model.specs.Schemas.{Schema}
use Rattle.desk_cli.specs.Performs.{Answers, Performs, Does, AnswersRows, WithValues}
use Rattle.desk_inputs.specs.FileKinds.{IsFile, WithFile}
use Rattle.desk_inputs.specs.Inputs.{schema_file}
use Rattle.desk_inputs.specs.Readings.{known_files}
use Rattle.desk_inputs.specs.Rows.{rows_file}
use Rattle.desk_measures.specs.Findings.{status_of}
use Rattle.desk_measures.specs.Keeping.{KeepsRows}
use Rattle.desk_measures.specs.Measures.{MeasuresRows}
use Rattle.desk_measures.specs.Offences.{ListsOffences, ListsOffencesByRow}
use Rattle.desk_measures.specs.Untyped.{HasTextsAlone}
use Rattle.desk_outside.specs.Files.{Files}
use Rattle.desk_responses.specs.ResponseValues.{ResponseValue, Allowed}
use Rattle.desk_responses.specs.declared.status.Status.{Status}
use Rattle.desk_words.specs.Forms.{form_of, form_over_rows, form_over_schema, after_offences, schema_and_file, schema_and_rows}
use Rattle.desk_laws.specs.Completeness.{IsYesOrNo, IsAnswered}
use Rattle.desk_laws.proofs.CompleteLaws.{after_schema, after_rows}
use Rattle.desk_laws.proofs.OneMeasure.{one_of_texts}
use Rattle.desk_tables.specs.OwnFolders.{Looks}

status_said : (clean : Bool) (status : Status) → status ≡ status_of clean → IsYesOrNo status
status_said true status is = inl is
status_said false status is = inr is

-- ---- rows of typed values
-- the two lists of offences are answered whatever the rows are
module _ (files : Files) (words : List (List ℕ)) (name file : List ℕ) (Lists : Schema → Relation → Allowed)
    (says : (r : Schema) (x : Relation) (response : ResponseValue) → Lists r x response → IsYesOrNo response.status)
    (asks : (looks : Looks) (response : ResponseValue) → Answers looks (known_files files) words response
    → WithFile schema_file (known_files files) name (λ r. WithFile (rows_file r) (known_files files) file (Lists r)) response) where
  rows_answered : (schema : Schema) (rows : Relation) → IsFile schema_file (known_files files) name schema
      → IsFile (rows_file schema) (known_files files) file rows → IsAnswered files words
  rows_answered schema rows held_schema held_rows looks response answered =
      says schema rows response
      (after_rows files schema file rows (Lists schema) response held_rows
      (after_schema files name schema (λ r. WithFile (rows_file r) (known_files files) file (Lists r)) response held_schema
      (asks looks response answered)))

offences_asks : (files : Files) (name file : List ℕ) (looks : Looks) (response : ResponseValue)
    → Answers looks (known_files files) (codes "offences" ∷ name ∷ file ∷ []) response
    → WithFile schema_file (known_files files) name
    (λ r. WithFile (rows_file r) (known_files files) file (ListsOffences r)) response
unfolding form_of form_over_schema form_over_rows after_offences Performs Does AnswersRows
offences_asks files name file looks response answered = answered

pub offences_answered : (files : Files) (name file : List ℕ) (schema : Schema) (rows : Relation)
    → IsFile schema_file (known_files files) name schema → IsFile (rows_file schema) (known_files files) file rows
    → IsAnswered files (codes "offences" ∷ name ∷ file ∷ [])
offences_answered files name file =
    rows_answered files (codes "offences" ∷ name ∷ file ∷ []) name file ListsOffences
    (λ r x response found. status_said found.0 response.status (ap (λ (a : ResponseValue). a.status) found.3))
    (offences_asks files name file)

by_row_asks : (files : Files) (name file : List ℕ) (looks : Looks) (response : ResponseValue)
    → Answers looks (known_files files) (codes "offences" ∷ codes "rows" ∷ name ∷ file ∷ []) response
    → WithFile schema_file (known_files files) name
    (λ r. WithFile (rows_file r) (known_files files) file (ListsOffencesByRow r)) response
unfolding form_of form_over_schema form_over_rows after_offences Performs Does AnswersRows
by_row_asks files name file looks response answered = answered

pub offences_by_row_answered : (files : Files) (name file : List ℕ) (schema : Schema) (rows : Relation)
    → IsFile schema_file (known_files files) name schema → IsFile (rows_file schema) (known_files files) file rows
    → IsAnswered files (codes "offences" ∷ codes "rows" ∷ name ∷ file ∷ [])
offences_by_row_answered files name file =
    rows_answered files (codes "offences" ∷ codes "rows" ∷ name ∷ file ∷ []) name file ListsOffencesByRow
    (λ r x response found. status_said found.0 response.status (ap (λ (a : ResponseValue). a.status) found.3))
    (by_row_asks files name file)

kept_asks : (files : Files) (name file : List ℕ) (looks : Looks) (response : ResponseValue)
    → Answers looks (known_files files) (codes "kept" ∷ name ∷ file ∷ []) response
    → WithFile schema_file (known_files files) name
    (λ r. WithFile (rows_file r) (known_files files) file (KeepsRows r)) response
unfolding form_of form_over_schema form_over_rows schema_and_rows Performs Does AnswersRows
kept_asks files name file looks response answered = answered

keeps_rows : (s : Schema) (rows : Relation) (response : ResponseValue) → ((k : ℕ) → IsFirstMvd (theory_of s) k → ⊥)
    → KeepsRows s rows response → IsYesOrNo response.status
keeps_rows s rows response functional (inl (kept, are, says)) = inl (ap (λ (a : ResponseValue). a.status) says)
keeps_rows s rows response functional (inr (dep, first, says)) = absurd (functional dep first)

pub kept_answered : (files : Files) (name file : List ℕ) (schema : Schema) (rows : Relation)
    → IsFile schema_file (known_files files) name schema → IsFile (rows_file schema) (known_files files) file rows
    → ((k : ℕ) → IsFirstMvd (theory_of schema) k → ⊥)
    → IsAnswered files (codes "kept" ∷ name ∷ file ∷ [])
kept_answered files name file schema rows held_schema held_rows functional looks response answered =
    keeps_rows schema rows response functional
    (after_rows files schema file rows (KeepsRows schema) response held_rows
    (after_schema files name schema (λ r. WithFile (rows_file r) (known_files files) file (KeepsRows r)) response held_schema
    (kept_asks files name file looks response answered)))

-- ---- rows of whatever values
measure_asks : (files : Files) (name file : List ℕ) (looks : Looks) (response : ResponseValue)
    → Answers looks (known_files files) (codes "measure" ∷ name ∷ file ∷ []) response
    → WithFile schema_file (known_files files) name (λ r. WithValues (known_files files) r file (MeasuresRows r)) response
unfolding form_of form_over_schema form_over_rows schema_and_file Performs Does
measure_asks files name file looks response answered = answered

pub measure_answered : (files : Files) (name file : List ℕ) (schema texts : Schema) (rows : Relation)
    → IsFile schema_file (known_files files) name schema → HasTextsAlone schema texts
    → IsFile (rows_file texts) (known_files files) file rows
    → IsAnswered files (codes "measure" ∷ name ∷ file ∷ [])
unfolding WithValues
measure_answered files name file schema texts rows held_schema alone held_rows looks response answered =
    read
    (after_schema files name schema (λ r. WithValues (known_files files) r file (MeasuresRows r)) response held_schema
    (measure_asks files name file looks response answered))
  where
    read : WithValues (known_files files) schema file (MeasuresRows schema) response → IsYesOrNo response.status
    read (others, also, more) =
        let found = after_rows files texts file rows (MeasuresRows schema) response held_rows
        (subst (λ (t : Schema). WithFile (rows_file t) (known_files files) file (MeasuresRows schema) response)
        (one_of_texts schema others texts also alone) more) in
        status_said found.0 response.status (ap (λ (a : ResponseValue). a.status) found.3)

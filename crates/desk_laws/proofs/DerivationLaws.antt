-- Where the schema file means a schema, the derivation file lines and the goal is one, it is said whether that is
-- derived.
use Rattle.std.proofs.Common.{ℕ, List, [], ◌∷◌, inl, inr, ap}
use Rattle.std.specs.Prelude.{codes}
use Rattle.dep_model.specs.Dependencies.{Dependency}
use Rattle.schema_model.specs.Schemas.{Schema}
use Rattle.derivation_grammar.specs.Lines.{DerivationLine}
use Rattle.derivation_mistakes.specs.Mistakes.{MistakenLine}
use Rattle.desk_arguments.specs.Goals.{IsGoal}
use Rattle.desk_cli.specs.Performs.{Answers, Performs, Does}
use Rattle.desk_implication.specs.Derivations.{ChecksDerivation, DerivationChecked, DerivationJudged}
use Rattle.desk_inputs.specs.FileKinds.{IsFile, WithFile}
use Rattle.desk_inputs.specs.Inputs.{derivation_file, schema_file}
use Rattle.desk_inputs.specs.Readings.{known_files}
use Rattle.desk_outside.specs.Files.{Files}
use Rattle.desk_responses.specs.ResponseValues.{ResponseValue}
use Rattle.desk_words.specs.Forms.{form_of, form_over_schema, after_check, schema_and_two}
use Rattle.desk_laws.specs.Completeness.{IsYesOrNo, IsAnswered}
use Rattle.desk_laws.proofs.CompleteLaws.{after_goal, after_schema}
use Rattle.desk_laws.proofs.OneFile.{after_file}
use Rattle.desk_laws.proofs.OneText.{derivation_text_once}
use Rattle.desk_tables.specs.OwnFolders.{Looks}

judged_says : (r : Schema) (found : List MistakenLine) (concluded goal : Dependency) (response : ResponseValue)
    → DerivationJudged r found concluded goal response → IsYesOrNo response.status
judged_says r found concluded goal response (inl (none, same, implied, says)) = inl (ap (λ (a : ResponseValue). a.status) says)
judged_says r found concluded goal response (inr (inl (some, same, says))) = inr (ap (λ (a : ResponseValue). a.status) says)
judged_says r found concluded goal response (inr (inr (differs, says))) = inr (ap (λ (a : ResponseValue). a.status) says)

checked_says : (r : Schema) (lines : List DerivationLine) (goal : Dependency) (response : ResponseValue)
    → DerivationChecked r lines goal response → IsYesOrNo response.status
checked_says r lines goal response (found, concluded, are, last, judged) = judged_says r found concluded goal response judged

derivation_asks : (files : Files) (name file goal : List ℕ) (looks : Looks) (response : ResponseValue)
    → Answers looks (known_files files) (codes "check" ∷ codes "derivation" ∷ name ∷ file ∷ goal ∷ []) response
    → WithFile schema_file (known_files files) name
    (λ r. WithFile (derivation_file r) (known_files files) file (λ ls. ChecksDerivation r ls goal)) response
unfolding form_of form_over_schema after_check schema_and_two Performs Does
derivation_asks files name file goal looks response answered = answered

-- the schema and the derivation are read, and the answer is one to them
pub after_derivation : (files : Files) (name file goal : List ℕ) (looks : Looks) (schema : Schema)
    (lines : List DerivationLine) (response : ResponseValue) → IsFile schema_file (known_files files) name schema
    → IsFile (derivation_file schema) (known_files files) file lines
    → Answers looks (known_files files) (codes "check" ∷ codes "derivation" ∷ name ∷ file ∷ goal ∷ []) response
    → ChecksDerivation schema lines goal response
after_derivation files name file goal looks schema lines response held_schema held_derivation answered =
    after_file files file (derivation_file schema) (derivation_text_once schema) lines
    (λ ls. ChecksDerivation schema ls goal) response held_derivation
    (after_schema files name schema
    (λ r. WithFile (derivation_file r) (known_files files) file (λ ls. ChecksDerivation r ls goal)) response held_schema
    (derivation_asks files name file goal looks response answered))

pub derivation_answered : (files : Files) (name file goal : List ℕ) (schema : Schema) (lines : List DerivationLine)
    (dep : Dependency) → IsFile schema_file (known_files files) name schema
    → IsFile (derivation_file schema) (known_files files) file lines → IsGoal schema goal dep
    → IsAnswered files (codes "check" ∷ codes "derivation" ∷ name ∷ file ∷ goal ∷ [])
derivation_answered files name file goal schema lines dep held_schema held_derivation is looks response answered =
    checked_says schema lines dep response
    (after_goal schema goal dep (DerivationChecked schema lines) response is
    (after_derivation files name file goal looks schema lines response held_schema held_derivation answered))

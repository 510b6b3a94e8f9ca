-- What is printed after yes by `explain implies` is accepted as a derivation.
use Rattle.std.proofs.Common.{◌≡◌, ℕ, List, [], ◌∷◌}
use Rattle.std.specs.Prelude.{codes}
use Rattle.implication_laws.proofs.ExplainedGoals.{explained_accepted}
use Rattle.desk_cli.specs.Performs.{Answers, Performs, Does, AnswersSchema}
use Rattle.desk_implication.specs.Explanations.{ExplainsImplication}
use Rattle.desk_inputs.specs.FileKinds.{IsFile, WithFile}
use Rattle.desk_inputs.specs.Inputs.{derivation_file, schema_file}
use Rattle.desk_inputs.specs.Readings.{known_files}
use Rattle.desk_outside.specs.Files.{Files}
use Rattle.desk_responses.specs.ResponseValues.{ResponseValue}
use Rattle.desk_tables.specs.OwnFolders.{Looks}
use Rattle.desk_words.specs.Forms.{form_of, form_over_schema, after_explain, schema_and_word}
use Rattle.desk_laws.specs.AcceptedTexts.{PrintedDerivationIsAccepted}
use Rattle.desk_laws.proofs.DerivationLaws.{after_derivation}
use Rattle.desk_laws.proofs.FileLemmas.{given_there, held_again}

why_answers : (looks : Looks) (files : Files) (schema goal : List ℕ) (response : ResponseValue)
    → Answers looks (known_files files) (codes "explain" ∷ codes "implies" ∷ schema ∷ goal ∷ []) response
    → WithFile schema_file (known_files files) schema (λ s. ExplainsImplication s goal) response
unfolding form_of form_over_schema after_explain schema_and_word Performs Does AnswersSchema
why_answers looks files schema goal response answered = answered

-- the same schema and what was printed are read, and no line of that is wrong
pub derivation_accepted : PrintedDerivationIsAccepted
derivation_accepted schema goal looks later before after file printed response answered says_yes same kept fits again =
    let given = given_there before schema (λ s. ExplainsImplication s goal) printed says_yes
    (why_answers looks before schema goal printed answered) in
    let s = given.0 in
    let found = explained_accepted given.1.bytes s goal printed given.1.means given.2 says_yes in
    let held : IsFile (derivation_file s) (known_files after) file found.0 =
    record { bytes = printed.text; content = (kept, fits); means = found.1 } in
    found.2 response
    (after_derivation after schema file goal later s found.0 response (held_again before after schema s given.1 same) held again)

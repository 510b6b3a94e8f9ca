-- What the laws of `one_answer` say: of words, tasks and texts of files. `Desk` does not cite it.
use Rattle.std.specs.Prelude.{◌≡◌, ◌⊎◌, ℕ, List, Ok, Err}
use Rattle.csv_rows.specs.Reading.{RowsOf}
use Rattle.csv_rows.specs.declared.refusal.RowRefusal.{RowRefusal}
use Rattle.dep_model.specs.Tuples.{Relation}
use Rattle.schema_model.specs.declared.naming.Naming.{Naming}
use Rattle.schema_model.specs.Schemas.{Schema}
use Rattle.derivation_grammar.specs.Meanings.{MeansDerivation}
use Rattle.derivation_grammar.specs.Refusals.{IsRefusedDerivation}
use Rattle.desk_outside.specs.Files.{Files}
use Rattle.plan_grammar.specs.Diagnostics.{RefusesPlan}
use Rattle.plan_grammar.specs.Meanings.{MeansPlan}
use Rattle.proof_grammar.specs.Refusals.{IsRefusedCertificate}
use Rattle.proof_grammar.specs.Spelling.{SpellsWithin}
use Rattle.schema_grammar.specs.Schemas.{MeansSchema, RefusesSchema}
use Rattle.desk_cli.specs.Performs.{Answers, Does}
use Rattle.desk_inputs.specs.Readings.{known_files}
use Rattle.desk_responses.specs.ResponseValues.{ResponseValue}
use Rattle.desk_tables.specs.OwnFolders.{HasOneLook, Looks}
use Rattle.desk_words.specs.Forms.{Task}
use Rattle.desk_laws.specs.OneReading.{AskForAPage, AskForRules, AskWhatIsDerived, HasOneReading, IsOneButForProof}

-- the text of a file has one reading: of a schema, of a plan, of a certificate, of a derivation, and of rows
-- (`schema`)
abbrev pub TextsOfFilesHaveOneReadingSchema : Type 0
TextsOfFilesHaveOneReadingSchema =
    (text : List ℕ) → HasOneReading (MeansSchema text) (RefusesSchema text)

-- the text of a file has one reading: of a schema, of a plan, of a certificate, of a derivation, and of rows
-- (`plan`)
abbrev pub TextsOfFilesHaveOneReadingPlan : Type 0
TextsOfFilesHaveOneReadingPlan =
    (naming : Naming) (names : List (List ℕ)) (text : List ℕ)
    → HasOneReading (MeansPlan naming names text) (RefusesPlan naming names text)

-- the text of a file has one reading: of a schema, of a plan, of a certificate, of a derivation, and of rows
-- (`proof`)
abbrev pub TextsOfFilesHaveOneReadingProof : Type 0
TextsOfFilesHaveOneReadingProof =
    (schema : Schema) (text : List ℕ)
    → HasOneReading (SpellsWithin schema text) (IsRefusedCertificate schema text)

-- the text of a file has one reading: of a schema, of a plan, of a certificate, of a derivation, and of rows
-- (`derivation`)
abbrev pub TextsOfFilesHaveOneReadingDerivation : Type 0
TextsOfFilesHaveOneReadingDerivation =
    (schema : Schema) (text : List ℕ)
    → HasOneReading (MeansDerivation schema text) (IsRefusedDerivation schema text)

-- the text of a file has one reading: of a schema, of a plan, of a certificate, of a derivation, and of rows
-- (`rows`)
abbrev pub TextsOfFilesHaveOneReadingRows : Type 0
TextsOfFilesHaveOneReadingRows =
    (schema : Schema) (text : List ℕ)
    → HasOneReading (λ (rows : Relation). RowsOf schema text (Ok rows))
    (λ (why : RowRefusal). RowsOf schema text (Err why))

-- what is asked of a schema, with the files after it, has one answer, which rests on what a look at a name is
-- answered: two answers are equal, but for the derivation of a goal that is not fixed, and for a page, which shows
-- derivations
abbrev pub TasksHaveOneAnswer : Type 0
TasksHaveOneAnswer =
    (looks : Looks) (files : Files) (schema : Schema) (task : Task) (one other : ResponseValue) → HasOneLook looks
    → Does looks (known_files files) schema task one → Does looks (known_files files) schema task other
    → IsOneButForProof schema task one other

-- any two answers that words have over known files, where a look at a name has one answer, are equal, unless the
-- words ask whether a goal is implied which is: then both answers are yes, and equal where the derivation is
-- fixed; or unless they ask for a page, which shows derivations: then both answers are yes; or unless they ask
-- for the rules of a file's rows: then one of the answers is the refusal of a column that has too many left
-- sides
abbrev pub WordsHaveOneAnswer : Type 0
WordsHaveOneAnswer =
    (looks : Looks) (files : Files) (words : List (List ℕ)) (one other : ResponseValue)
    → HasOneLook looks
    → Answers looks (known_files files) words one → Answers looks (known_files files) words other
    → (one ≡ other)
    ⊎ (AskWhatIsDerived files words one other ⊎ (AskForAPage words one other ⊎ AskForRules files words one other))

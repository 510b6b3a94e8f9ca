-- `import sqlite` and `import postgres` answer yes where the SQL of their file defines the table that is wanted, and
-- have one answer.
use Rattle.std.proofs.Common.{◌≡◌, ℕ, Some, Ok, List, [], ◌∷◌, inl, inr, sym, ap, ◌∙◌}
use Rattle.std.specs.Prelude.{codes}
use Rattle.implication_laws.specs.OneAnswer.{AllowsOne}
use Rattle.lexer.specs.Lines.{without_mark}
use Rattle.sql_lexemes.specs.declared.dialect.Dialect.{Dialect}
use Rattle.sql_lexemes.specs.declared.dialect.Dialect.TheVariants.{Sqlite, Postgres}
use Rattle.sql_definitions.specs.Wanted.{TableName, wanted_table}
use Rattle.sql_schemas.specs.Texts.{imported_text}
use Rattle.desk_imports.specs.Imports.{ImportsTable, import_response, wanted_response}
use Rattle.desk_outside.specs.Files.{Files}
use Rattle.desk_responses.specs.ResponseValues.{ResponseValue, text_only}
use Rattle.desk_responses.specs.declared.status.Status.TheVariants.{Yes}
use Rattle.desk_inputs.specs.FileKinds.{IsFile, WithFile}
use Rattle.desk_inputs.specs.Readings.{known_files}
use Rattle.desk_inputs.specs.Sql.{sql_file}
use Rattle.desk_cli.specs.Performs.{Answers, Performs}
use Rattle.desk_tables.specs.OwnFolders.{Looks}
use Rattle.desk_words.specs.Forms.{after_import, dialect_of, file_and_table, form_of}
use Rattle.desk_laws.specs.Completeness.{IsAnswered, IsYesOrNo}
use Rattle.desk_laws.specs.OneReading.{HasOneReading}
use Rattle.desk_laws.proofs.OneFile.{after_file, one_after_file}

-- ---- it is answered
-- the bytes of a file are one value
bytes_once : (text : List ℕ) → HasOneReading (λ (value : List ℕ). value ≡ text) (λ (refusal : ⊥). ⊥)
bytes_once text = record {
  one_meaning = λ value other is also. is ∙ sym also;
  one_refusal = λ refusal other is also. absurd is;
  never_both = λ value refusal is refused. refused;
}

pub sql_answer : (files : Files) (dialect : Dialect) (file table : List ℕ) (wanted : TableName) (text printed : List ℕ) (response : ResponseValue)
    → IsFile sql_file (known_files files) file text → wanted_table table ≡ Some wanted
    → imported_text dialect wanted (without_mark text) ≡ Ok printed
    → WithFile sql_file (known_files files) file (ImportsTable dialect table file) response
    → response ≡ text_only Yes printed
sql_answer files dialect file table wanted text printed response is wants prints answered =
    after_file files file sql_file bytes_once text (ImportsTable dialect table file) response is answered
    ∙ ap (wanted_response dialect file text) wants
    ∙ ap (import_response file (without_mark text)) prints

after_sql : (files : Files) (dialect : Dialect) (file table : List ℕ) (wanted : TableName) (text printed : List ℕ) (response : ResponseValue)
    → IsFile sql_file (known_files files) file text → wanted_table table ≡ Some wanted
    → imported_text dialect wanted (without_mark text) ≡ Ok printed
    → WithFile sql_file (known_files files) file (ImportsTable dialect table file) response → IsYesOrNo response.status
after_sql files dialect file table wanted text printed response is wants prints found =
    inl (ap (λ (a : ResponseValue). a.status)
    (sql_answer files dialect file table wanted text printed response is wants prints found))

pub sqlite_asks : (files : Files) (file table : List ℕ) (looks : Looks) (response : ResponseValue)
    → Answers looks (known_files files) (codes "import" ∷ codes "sqlite" ∷ file ∷ table ∷ []) response
    → WithFile sql_file (known_files files) file (ImportsTable Sqlite table file) response
unfolding form_of after_import dialect_of file_and_table Performs
sqlite_asks files file table looks response answered = answered

pub postgres_asks : (files : Files) (file table : List ℕ) (looks : Looks) (response : ResponseValue)
    → Answers looks (known_files files) (codes "import" ∷ codes "postgres" ∷ file ∷ table ∷ []) response
    → WithFile sql_file (known_files files) file (ImportsTable Postgres table file) response
unfolding form_of after_import dialect_of file_and_table Performs
postgres_asks files file table looks response answered = answered

pub sqlite_answered : (files : Files) (file table : List ℕ) (wanted : TableName) (text printed : List ℕ)
    → IsFile sql_file (known_files files) file text → wanted_table table ≡ Some wanted
    → imported_text Sqlite wanted (without_mark text) ≡ Ok printed
    → IsAnswered files (codes "import" ∷ codes "sqlite" ∷ file ∷ table ∷ [])
sqlite_answered files file table wanted text printed is wants prints looks response answered =
    after_sql files Sqlite file table wanted text printed response is wants prints
    (sqlite_asks files file table looks response answered)

pub postgres_answered : (files : Files) (file table : List ℕ) (wanted : TableName) (text printed : List ℕ)
    → IsFile sql_file (known_files files) file text → wanted_table table ≡ Some wanted
    → imported_text Postgres wanted (without_mark text) ≡ Ok printed
    → IsAnswered files (codes "import" ∷ codes "postgres" ∷ file ∷ table ∷ [])
postgres_answered files file table wanted text printed is wants prints looks response answered =
    after_sql files Postgres file table wanted text printed response is wants prints
    (postgres_asks files file table looks response answered)

-- ---- it has one answer
pub one_import_of_sql : (files : Files) (dialect : Dialect) (file table : List ℕ)
    → AllowsOne (WithFile sql_file (known_files files) file (ImportsTable dialect table file))
one_import_of_sql files dialect file table =
    one_after_file files file sql_file bytes_once (ImportsTable dialect table file) (λ text is one other found said. found ∙ sym said)

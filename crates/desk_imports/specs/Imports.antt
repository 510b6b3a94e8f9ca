-- What `import sqlite` and `import postgres` answer: the schema of a table that the SQL of a file defines.
use Rattle.std.specs.Prelude.{◌≡◌, ℕ, Option, Some, None, Result, Ok, Err, List, ◌++◌, codes, decimal, take}
use Rattle.lexer.specs.Lines.{without_mark}
use Rattle.sql_lexemes.specs.declared.dialect.Dialect.{Dialect}
use Rattle.sql_lexemes.specs.Places.{column_after, line_after}
use Rattle.sql_definitions.specs.declared.refusal.Reason.{Reason}
use Rattle.sql_definitions.specs.declared.refusal.Reason.TheVariants as reason
use Rattle.sql_definitions.specs.declared.refusal.Refusal.{Refusal}
use Rattle.sql_definitions.specs.Wanted.{TableName, wanted_table}
use Rattle.sql_schemas.specs.Texts.{imported_text}
use Rattle.desk_responses.specs.Lines.{bad_table_text}
use Rattle.desk_responses.specs.ResponseValues.{Allowed, ResponseValue, text_only}
use Rattle.desk_responses.specs.declared.status.Status.TheVariants as status
use Rattle.desk_texts.specs.Texts.{line}

-- ---- refusals
-- the number of a refusal
abbrev pub reason_number : Reason → ℕ
reason_number reason.StrangeByte = 1
reason_number reason.OpenQuote = 1
reason_number reason.OpenComment = 1
reason_number reason.NoSuchTable = 2
reason_number reason.TableDefinedTwice = 3
reason_number reason.BadName = 4
reason_number reason.NameDeclaredTwice = 5
reason_number reason.ExpectedName = 6
reason_number reason.ExpectedBracket = 6
reason_number reason.ExpectedCommaOrBracket = 6
reason_number reason.ExpectedKey = 6
reason_number reason.TooManyAttributes = 7
reason_number reason.TooManyDependencies = 8
reason_number reason.UnknownName = 9
reason_number reason.TableAltered = 10

-- what it says
abbrev pub reason_text : Reason → List ℕ
reason_text reason.StrangeByte = codes "strange byte"
reason_text reason.OpenQuote = codes "open quote"
reason_text reason.OpenComment = codes "open comment"
reason_text reason.NoSuchTable = codes "no such table"
reason_text reason.TableDefinedTwice = codes "table defined twice"
reason_text reason.BadName = codes "bad name"
reason_text reason.NameDeclaredTwice = codes "name declared twice"
reason_text reason.ExpectedName = codes "expected a name"
reason_text reason.ExpectedBracket = codes "expected ("
reason_text reason.ExpectedCommaOrBracket = codes "expected , or )"
reason_text reason.ExpectedKey = codes "expected KEY"
reason_text reason.TooManyAttributes = codes "too many attributes"
reason_text reason.TooManyDependencies = codes "too many dependencies"
reason_text reason.UnknownName = codes "unknown name"
reason_text reason.TableAltered = codes "the table is altered"

-- the line and the column of a place
abbrev pub line_and_column : List ℕ → ℕ → List ℕ
line_and_column text place =
    decimal (line_after (take place text)) ++ codes ":" ++ decimal (column_after (take place text))

-- where a refusal stands, in the text of a file: a table that is not there stands nowhere
abbrev pub place_text : List ℕ → Reason → ℕ → List ℕ
place_text text reason.NoSuchTable place = codes ""
place_text text other place = line_and_column text place

abbrev pub import_refusal_text : List ℕ → List ℕ → Refusal → List ℕ
import_refusal_text file text refusal =
    line (codes "refused: import " ++ decimal (reason_number refusal.reason) ++ codes " at " ++ file ++ codes ":"
    ++ place_text text refusal.reason refusal.place ++ codes " " ++ reason_text refusal.reason)

-- ---- the answer
-- the text of a schema, or a refusal
abbrev pub import_response : List ℕ → List ℕ → Result (List ℕ) Refusal → ResponseValue
import_response file text (Ok printed) = text_only status.Yes printed
import_response file text (Err refusal) = text_only status.Refused (import_refusal_text file text refusal)

-- of the table that is wanted, where a word wants one; one byte-order mark at the start of the text is skipped
abbrev pub wanted_response : Dialect → List ℕ → List ℕ → Option TableName → ResponseValue
wanted_response dialect file text None = text_only status.Refused bad_table_text
wanted_response dialect file text (Some wanted) =
    import_response file (without_mark text) (imported_text dialect wanted (without_mark text))

-- the schema of the table that a word wants, by the text of a file
abbrev pub ImportsTable : Dialect → List ℕ → List ℕ → List ℕ → Allowed
ImportsTable dialect table file text response = response ≡ wanted_response dialect file text (wanted_table table)

-- What the SQL of a text says of a table: for `read_definition`, and for all that stands on it.
use Rattle.std.specs.Prelude.{ℕ, ◌==◌, nat_lt, Option, Some, None, Ok, Err, List, [], ◌∷◌, length, if◌then◌else◌}
use Rattle.sql_lexemes.specs.declared.dialect.Dialect.{Dialect}
use Rattle.sql_lexemes.specs.declared.piece.Flaw.{Flaw}
use Rattle.sql_lexemes.specs.declared.piece.Flaw.TheVariants as flaw
use Rattle.sql_lexemes.specs.Statements.{Stated, statements_of}
use Rattle.sql_definitions.specs.declared.refusal.Reason.{Reason}
use Rattle.sql_definitions.specs.declared.refusal.Reason.TheVariants as reason
use Rattle.sql_definitions.specs.Facts.{Facts, Outcome, refused, then_read, no_facts}
use Rattle.sql_definitions.specs.Tables.{read_lexemes}
use Rattle.sql_definitions.specs.Wanted.{TableName}

abbrev pub reason_of : Flaw → Reason
reason_of flaw.StrangeByte = reason.StrangeByte
reason_of flaw.OpenQuote = reason.OpenQuote
reason_of flaw.OpenComment = reason.OpenComment

-- what reading a statement that a flaw ends comes to: a refusal before the flaw stands, else the flaw is refused
abbrev pub flawed : Flaw → ℕ → Outcome → Outcome
flawed why end (Ok f) = refused (reason_of why) end
flawed why end (Err refusal) = if nat_lt refusal.place end then Err refusal else refused (reason_of why) end

abbrev pub ended : Option Flaw → ℕ → Outcome → Outcome
ended None end outcome = outcome
ended (Some why) end outcome = flawed why end outcome

-- a statement
abbrev pub read_statement : Dialect → TableName → Stated → Facts → Outcome
read_statement d wanted s f = ended s.flaw s.end (read_lexemes d wanted s.end s.lexemes f)

-- statements, one after the other, up to the first refusal
unfoldable pub read_statements : Dialect → TableName → List Stated → Facts → Outcome
read_statements d wanted [] f = Ok f
read_statements d wanted (s ∷ ss) f = then_read (read_statement d wanted s f) (read_statements d wanted ss)

-- where no refusal stands, some statement creates the table, with a column at least
abbrev pub is_there : Facts → Outcome
is_there f = if length f.columns == 0 then refused reason.NoSuchTable 0 else Ok f

-- what the SQL of a text says of a table
abbrev pub definition_of : Dialect → TableName → List ℕ → Outcome
definition_of d wanted text = then_read (read_statements d wanted (statements_of d text) no_facts) is_there

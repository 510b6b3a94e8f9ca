-- A lexeme of a SQL text: for the statements, and for all that reads them.
use Rattle.std.specs.Prelude.{ℕ, List}
use Rattle.sql_lexemes.specs.declared.lexeme.LexemeKind.{LexemeKind}

-- what it is, how many bytes stand before it, how many round brackets stand around it, and its bytes
pub record Lexed : Type 0 where
  pub kind : LexemeKind
  pub place : ℕ
  pub depth : ℕ
  pub text : List ℕ

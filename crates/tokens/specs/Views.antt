-- What the reader's values stand for, in the words of the grammar: for tokens and the readers
-- above it. `Desk` does not cite it.
use Rattle.std.specs.Prelude.{◌≡◌, ◌<◌, ℕ, ◌+◌, true, Some, None, List, [], ◌∷◌, length}
use Rattle.schema_model.specs.Names.{IsName, is_bare_name}
use Rattle.schema_model.specs.Schemas.{names_of}
use Rattle.lexer.specs.declared.token.LexError.{LexError}
use Rattle.lexer.specs.declared.token.Token.{Token}
use Rattle.lexer.specs.declared.token.TokenKind.TheVariants as token
use Rattle.lexer.specs.Tokens.{Mark, tokens_after, bytes_of}
use Rattle.schema_grammar.specs.declared.refusal.SchemaRefusal.{SchemaRefusal}
use Rattle.schema_grammar.specs.Declarations.{mark_of}
use Rattle.schema_grammar.specs.Refusals.{refused_by}
use Rattle.schema_grammar.specs.Rests.{Rest, rest_from}
use Rattle.tokens.specs.declared.cursor.Cursor.{Cursor}
use Rattle.tokens.specs.declared.cursor.NextToken.{NextToken}
use Rattle.tokens.specs.declared.cursor.NextToken.TheVariants as next
use Rattle.tokens.specs.declared.names.Names.{Names}
use Rattle.tokens.specs.declared.names.Names.TheVariants as names

-- the names among which a word is looked up
abbrev pub names_in : Names → List (List ℕ)
names_in (names.Listed listed) = listed.now
names_in (names.Of schema) = names_of schema.now
names_in (names.Guided schema guide) = names_of schema.now

-- the tokens that are left
unfoldable pub rest_of : Cursor → Rest
rest_of c = rest_from c.line c.column (tokens_after c.mode 0 c.column c.text.now)

-- how many bytes are left: the measure of the loops over a line
abbrev pub bytes_left : Cursor → ℕ
bytes_left c = length c.text.now

-- no token is left of a line
pub record HasEnded (r : Rest) : Type 0 where
  pub marks : r.marks ≡ []
  pub stop : r.stop ≡ None

-- bytes that are no token come next, and are refused so
pub record IsStopped (r : Rest) (e : SchemaRefusal) : Type 0 where
  pub by : LexError
  pub marks : r.marks ≡ []
  pub stop : r.stop ≡ Some by
  pub refusal : e ≡ refused_by r.line by

-- a token comes next, and what is left after it
pub record IsLed (r : Rest) (m : Mark) (after : Rest) : Type 0 where
  pub marks : r.marks ≡ m ∷ after.marks
  pub stop : r.stop ≡ after.stop
  pub line : after.line ≡ r.line
  pub column : after.next_column ≡ m.column + m.length

-- the same of a cursor; the bytes of a word form one, and those of a quoted name
pub record Takes (c : Cursor) (t : Token) (word : List ℕ) (after : Cursor) : Type 0 where
  pub led : IsLed (rest_of c) (mark_of t word) (rest_of after)
  pub is_a_word : t.kind ≡ token.Identifier → is_bare_name word ≡ true
  pub is_a_name : t.kind ≡ token.Quoted → IsName word
  pub shorter : bytes_left after < bytes_left c

-- what comes next on a line
abbrev pub ComesNext : Cursor → NextToken → Type 0
ComesNext c next.End = HasEnded (rest_of c)
ComesNext c (next.Token t word after) = Takes c t (bytes_of word) after
ComesNext c (next.Refusal e) = IsStopped (rest_of c) e

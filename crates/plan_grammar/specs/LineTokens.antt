-- The tokens of a line of a plan text: for the meaning of plan texts (`Meanings`) and their reading.
use Rattle.std.specs.Prelude.{ℕ, Bool, false, if◌then◌else◌, List, [], ◌∷◌, codes}
use Rattle.std.specs.Str.{bytes_eq}
use Rattle.schema_model.specs.declared.naming.Naming.{Naming}
use Rattle.lexer.specs.Modes as mode
use Rattle.lexer.specs.declared.mode.Mode.{Mode}
use Rattle.lexer.specs.declared.token.TokenKind.{TokenKind}
use Rattle.lexer.specs.declared.token.TokenKind.TheVariants as token
use Rattle.lexer.specs.Tokens.{Mark, Lexed, lex}

-- whether a token is a word, in lower case
unfoldable pub is_keyword : List ℕ → TokenKind → List ℕ → Bool
is_keyword key token.Identifier word = bytes_eq word key
is_keyword key token.Quoted word = false
is_keyword key (token.Number n) word = false
is_keyword key token.Arrow word = false
is_keyword key token.DoubleArrow word = false
is_keyword key token.Empty word = false
is_keyword key token.Colon word = false

-- whether a token is the word `scheme`
abbrev pub is_scheme : TokenKind → List ℕ → Bool
is_scheme kind word = is_keyword (codes "scheme") kind word

-- whether it is the word `table`, after which a line names its table
abbrev pub is_table : TokenKind → List ℕ → Bool
is_table kind word = is_keyword (codes "table") kind word

-- `:` is a token where a line names its table
abbrev pub mode_by_head : Naming → List Mark → Mode
mode_by_head naming [] = mode.plain naming
mode_by_head naming (m ∷ ms) = if is_table m.kind m.word then mode.labelled naming else mode.plain naming

-- which tokens a line may have, by its first
unfoldable pub line_mode : Naming → List ℕ → Mode
line_mode naming text = mode_by_head naming (lex (mode.plain naming) text).marks

-- the tokens of a line
abbrev pub lex_line : Naming → List ℕ → Lexed
lex_line naming text = lex (line_mode naming text) text

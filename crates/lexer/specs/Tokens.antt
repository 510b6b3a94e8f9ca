-- The tokens of a line: for `next_token`, and for the grammars of schemas, plans and certificates.
use Rattle.std.specs.Prelude.{◌≡◌, ℕ, ◌+◌, ◌-◌, ◌<◌, ◌≤◌, zero, suc, Bool, true, false, Option, None, Some, List, [], ◌∷◌, length, take}
use Rattle.lexer.specs.declared.piece.Piece.{Piece}
use Rattle.lexer.specs.declared.piece.Piece.TheVariants as piece
use Rattle.lexer.specs.declared.mode.Mode.{Mode}
use Rattle.lexer.specs.declared.token.Next.{Next}
use Rattle.lexer.specs.declared.token.Next.TheVariants as next
use Rattle.lexer.specs.declared.token.LexError.{LexError}
use Rattle.lexer.specs.declared.token.Token.{Token}
use Rattle.lexer.specs.declared.token.TokenKind.{TokenKind}
use Rattle.lexer.specs.declared.word.Word.{Word}
use Rattle.lexer.specs.declared.word.Word.TheVariants as word
use Rattle.lexer.specs.declared.token.TokenKind.TheVariants as token
use Rattle.schema_model.specs.Names.{IsName, is_bare_name}
use Rattle.lexer.specs.declared.word.WordBytes.{WordBytes}
use Rattle.lexer.specs.declared.word.WordBytes.TheVariants as bytes
use Rattle.lexer.specs.Pieces.{front_piece}
use Rattle.lexer.specs.Quotes.{undoubled, between}

-- a token with the bytes that it stands for: those of its text, or the name between its quotes. So a mark says what
-- is written; a `Token` of the code says only what stands where in a line
pub record Mark : Type 0 where
  pub kind : TokenKind
  pub column : ℕ
  pub length : ℕ
  pub word : List ℕ

-- whether a token is `:`
abbrev pub is_colon : TokenKind → Bool
is_colon token.Colon = true
is_colon _ = false

-- the tokens of a line up to the first bytes that are none, and these bytes if there are any
pub record Lexed : Type 0 where
  pub marks : List Mark
  pub stop : Option LexError

abbrev pub led_by_mark : Mark → Lexed → Lexed
led_by_mark m l = record { marks = m ∷ l.marks; stop = l.stop }

-- the bytes that a token with this text stands for
abbrev pub word_of : TokenKind → List ℕ → List ℕ
word_of token.Quoted text = undoubled (between text)
word_of kind text = text

-- the tokens of a text at whose front this piece stands; the tokens of what is left after some
-- bytes more come from `after`
abbrev pub led_by : Piece → ℕ → List ℕ → (ℕ → Lexed) → Lexed
led_by piece.Gap column text after = after 0
led_by piece.Comment column text after = record { marks = []; stop = None }
led_by (piece.Token kind n) column text after =
    led_by_mark (record { kind = kind; column = column; length = n; word = word_of kind (take n text) })
    (after (n - 1))
led_by (piece.Flaw why n) column text after =
    record { marks = []; stop = Some (record { flaw = why; column = column; length = n }) }

-- the tokens of a text that begins in a column, after so many bytes that belong to the piece before
unfoldable pub tokens_after : Mode → ℕ → ℕ → List ℕ → Lexed
tokens_after m skip column [] = record { marks = []; stop = None }
tokens_after m zero column (b ∷ bs) =
    led_by (front_piece m (b ∷ bs)) column (b ∷ bs) (λ skip. tokens_after m skip (column + 1) bs)
tokens_after m (suc n) column (b ∷ bs) = tokens_after m n (column + 1) bs

-- the tokens of a line
abbrev pub lex : Mode → List ℕ → Lexed
lex m line = tokens_after m 0 1 line

-- a token, as code has it
abbrev pub token_of : Mark → Token
token_of m = record { kind = m.kind; column = m.column; length = m.length }

-- the bytes that a token stands for
abbrev pub bytes_of : Word → List ℕ
bytes_of (word.Bare text) = text.now
bytes_of (word.Quoted quoted) = undoubled quoted.text.now

abbrev pub bytes_in : WordBytes → List ℕ
bytes_in (bytes.Text text) = text.now
bytes_in (bytes.Name name) = name

-- the token stands in front of the others; the bytes of a word form one, and those of a quoted name
pub record Leads (m : Mode) (t : Token) (word rest : List ℕ) (all : Lexed) : Type 0 where
  pub all_tokens : all ≡ led_by_mark
      (record { kind = t.kind; column = t.column; length = t.length; word = word })
      (tokens_after m 0 (t.column + t.length) rest)
  pub is_a_word : t.kind ≡ token.Identifier → is_bare_name word ≡ true
  pub is_a_name : t.kind ≡ token.Quoted → IsName word

-- what comes next is the first of these tokens, or why there is none
abbrev pub GoesOn : Mode → Next → Lexed → Type 0
GoesOn m next.End all = all ≡ record { marks = []; stop = None }
GoesOn m (next.Token t word rest) all = Leads m t (bytes_of word) rest.now all
GoesOn m (next.Error s) all = all ≡ record { marks = []; stop = Some s }

-- a token stands at the column or after it, and takes at least one byte of the text
pub record StandsAfter (column : ℕ) (text : List ℕ) (t : Token) (rest : List ℕ) : Type 0 where
  pub from_on : column ≤ t.column
  pub fits : (t.column + t.length) + length rest ≡ column + length text
  pub shorter : length rest < length text

abbrev pub Advances : ℕ → List ℕ → Next → Type 0
Advances column text next.End = Unit {0}
Advances column text (next.Token t word rest) = StandsAfter column text t rest.now
Advances column text (next.Error s) = Unit {0}

-- What is left of a line, and what is read of it token by token: for the reading of schema texts,
-- goals, plans and certificates.
use Rattle.std.specs.Prelude.{ℕ, ◌+◌, if◌then◌else◌, List, [], ◌∷◌, Option, Some, None, Result, Ok, Err, ok_or}
use Rattle.attr_sets.specs.Attributes.{Attributes, only, none, union}
use Rattle.lexer.specs.declared.token.LexError.{LexError}
use Rattle.lexer.specs.declared.token.TokenKind.{TokenKind}
use Rattle.lexer.specs.declared.token.TokenKind.TheVariants as token
use Rattle.lexer.specs.Tokens.{Mark, Lexed}
use Rattle.schema_grammar.specs.declared.format.Format.TheVariants as format
use Rattle.schema_grammar.specs.declared.refusal.SchemaRefusal.{SchemaRefusal}
use Rattle.schema_grammar.specs.declared.refusal.SchemaRefusalKind.TheVariants as kind
use Rattle.schema_grammar.specs.declared.refusal.What.{What}
use Rattle.schema_grammar.specs.declared.refusal.What.TheVariants as what
use Rattle.schema_grammar.specs.declared.symbol.Sign.{Sign}
use Rattle.schema_grammar.specs.declared.symbol.Sign.TheVariants.{Functional, Multivalued}
use Rattle.schema_grammar.specs.Refusals.{refusal, refused_by, at}
use Rattle.schema_grammar.specs.Words.{is_word_token, look_up}

-- the value of a number
abbrev pub number_in : TokenKind → Option ℕ
number_in (token.Number n) = Some n
number_in token.Identifier = None
number_in token.Quoted = None
number_in token.Arrow = None
number_in token.DoubleArrow = None
number_in token.Empty = None
number_in token.Colon = None

-- the arrow that a token is
abbrev pub arrow_in : TokenKind → Option Sign
arrow_in token.Arrow = Some Functional
arrow_in token.DoubleArrow = Some Multivalued
arrow_in _ = None

-- the attribute that a word of a side, or a quoted name, stands for
abbrev pub attribute_of_word : List (List ℕ) → ℕ → Mark → Result ℕ SchemaRefusal
attribute_of_word names line m = at line m.column m.length (look_up format.Plain names m.kind m.word)

-- what is left of a line after a column: its tokens, and where they stop
pub record Rest : Type 0 where
  pub line : ℕ
  pub next_column : ℕ
  pub marks : List Mark
  pub stop : Option LexError

-- what is left of a line where these tokens are still to be read
abbrev pub rest_from : ℕ → ℕ → Lexed → Rest
rest_from line next_column l =
    record { line = line; next_column = next_column; marks = l.marks; stop = l.stop }

-- a value is handed on to the next step, and an error is the end
infixl 10 ◌>>=◌
abbrev pub ◌>>=◌ : {A B E : Type 0} → Result A E → (A → Result B E) → Result B E
(Ok x) >>= f = f x
(Err e) >>= f = Err e

-- the next token, and the rest after it
abbrev pub take_from : What → ℕ → ℕ → List Mark → Option LexError → Result (Mark × Rest) SchemaRefusal
take_from want line next_column [] None = Err (refusal line next_column 0 (kind.Expected want))
take_from want line next_column [] (Some stop) = Err (refused_by line stop)
take_from want line next_column (m ∷ ms) stop =
    Ok (m, record { line = line; next_column = m.column + m.length; marks = ms; stop = stop })

-- the same of what is left of a line; `want` is what is wanted, if nothing stands there
unfoldable pub take : What → Rest → Result (Mark × Rest) SchemaRefusal
take want r = take_from want r.line r.next_column r.marks r.stop

-- the refusal of a token where something else is wanted
abbrev pub refusal_of_token : What → Mark → Rest → SchemaRefusal
refusal_of_token want m r = refusal r.line m.column m.length (kind.Expected want)

-- a number, and what is left after it
unfoldable pub number : Rest → Result (ℕ × Rest) SchemaRefusal
number r = do
  t ← take what.Number r
  n ← ok_or (number_in t.0.kind) (refusal_of_token what.Number t.0 t.1)
  Ok (n, t.1)

-- an arrow, and what is left after it
unfoldable pub arrow : Rest → Result (Sign × Rest) SchemaRefusal
arrow r = do
  t ← take what.Arrow r
  a ← ok_or (arrow_in t.0.kind) (refusal_of_token what.Arrow t.0 t.1)
  Ok (a, t.1)

-- the refusal of what stands where the line is to end
abbrev pub refusal_at_end_from : ℕ → List Mark → Option LexError → Option SchemaRefusal
refusal_at_end_from line [] None = None
refusal_at_end_from line [] (Some stop) = Some (refused_by line stop)
refusal_at_end_from line (m ∷ ms) stop = Some (refusal line m.column m.length (kind.Expected what.LineEnd))

-- the same of what is left of a line
unfoldable pub refusal_at_end : Rest → Option SchemaRefusal
refusal_at_end r = refusal_at_end_from r.line r.marks r.stop

-- a value, unless the line does not end here
abbrev pub unless : {A : Type 0} → Option SchemaRefusal → A → Result A SchemaRefusal
unless None x = Ok x
unless (Some e) x = Err e

-- words that stand here, added to a set
unfoldable pub words_from : List (List ℕ) → ℕ → Attributes → ℕ → List Mark → Option LexError
    → Result (Attributes × Rest) SchemaRefusal
words_from names line x next_column [] stop =
    Ok (x, record { line = line; next_column = next_column; marks = []; stop = stop })
words_from names line x next_column (m ∷ ms) stop =
    if is_word_token m.kind
    then (attribute_of_word names line m >>= λ a. words_from names line (union x (only a))
    (m.column + m.length) ms stop)
    else Ok (x, record { line = line; next_column = next_column; marks = m ∷ ms; stop = stop })

-- the same of what is left of a line
abbrev pub words : List (List ℕ) → Attributes → Rest → Result (Attributes × Rest) SchemaRefusal
words names x r = words_from names r.line x r.next_column r.marks r.stop

-- a side that begins with this token
abbrev pub side_from : List (List ℕ) → Mark → Rest → TokenKind → Result (Attributes × Rest) SchemaRefusal
side_from names m r token.Identifier = attribute_of_word names r.line m >>= λ a. words names (only a) r
side_from names m r token.Quoted = attribute_of_word names r.line m >>= λ a. words names (only a) r
side_from names m r token.Empty = Ok (none, r)
side_from names m r _ = Err (refusal_of_token what.Side m r)

-- words, or `()`
unfoldable pub side : List (List ℕ) → Rest → Result (Attributes × Rest) SchemaRefusal
side names r = take what.Side r >>= λ t. side_from names t.0 t.1 t.0.kind

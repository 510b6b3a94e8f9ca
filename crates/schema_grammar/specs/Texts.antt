-- A schema text read from left to right: for `read_schema` and the laws that tie it to the meaning.
-- `Desk` cites `declarations_of` and the tests of a version line.
use Rattle.std.specs.Prelude.{ℕ, ◌+◌, ◌-◌, ◌==◌, Bool, false, if◌then◌else◌, List, [], ◌∷◌, length, Option, Some, None, Result, Ok, Err, codes}
use Rattle.std.specs.Str.{bytes_eq}
use Rattle.schema_model.specs.declared.naming.Naming.TheVariants.{Bare}
use Rattle.schema_model.specs.Schemas.{Schema}
use Rattle.schema_model.specs.Schemas.{names_of, types_of, theory_of, lines_of, naming_of, nullable_of}
use Rattle.lexer.specs.Modes as mode
use Rattle.lexer.specs.declared.token.LexError.{LexError}
use Rattle.lexer.specs.declared.token.TokenKind.{TokenKind}
use Rattle.lexer.specs.declared.token.TokenKind.TheVariants as token
use Rattle.lexer.specs.Lines.{line_texts, without_mark}
use Rattle.lexer.specs.Tokens.{Mark, lex}
use Rattle.schema_grammar.specs.declared.refusal.SchemaRefusal.{SchemaRefusal}
use Rattle.schema_grammar.specs.declared.refusal.SchemaRefusalKind.TheVariants as kind
use Rattle.schema_grammar.specs.declared.refusal.What.TheVariants as what
use Rattle.schema_grammar.specs.declared.format.TheConstants.{TYPED_VERSION, FULL_VERSION}
use Rattle.schema_grammar.specs.declared.format.Format.{Format}
use Rattle.schema_grammar.specs.declared.format.Format.TheVariants as format
use Rattle.schema_grammar.specs.Declarations.{Declarations, no_declaration, read_line}
use Rattle.schema_grammar.specs.LineTokens.{naming_in}
use Rattle.schema_grammar.specs.Refusals.{refusal}
use Rattle.schema_grammar.specs.Rests.{Rest, ◌>>=◌, take, refusal_of_token, number_in, refusal_at_end, unless}

abbrev pub declarations_of : Schema → Declarations
declarations_of s =
    record {
      names = names_of s;
      columns = types_of s;
      deps = theory_of s;
      lines = lines_of s;
      naming = naming_of s;
      nullable = nullable_of s;
    }

-- a text ends with this line: it declares an attribute, or is refused there
unfoldable pub finish : ℕ → Declarations → Result Declarations SchemaRefusal
finish last d = if length d.names == 0 then Err (refusal last 1 0 kind.NoAttributes) else Ok d

-- what lines declare, of which the first has this number
unfoldable pub read_lines : Format → ℕ → Declarations → List (List ℕ) → Result Declarations SchemaRefusal
read_lines f number d [] = finish (number - 1) d
read_lines f number d (line ∷ lines) =
    read_line f number d line >>= (λ next. read_lines f (number + 1) next lines)

-- what lines declare after nothing
abbrev pub read_all : Format → ℕ → List (List ℕ) → Result Declarations SchemaRefusal
read_all f number lines = read_lines f number (no_declaration (naming_in f)) lines

-- the format of the texts of a version, where they are read
abbrev pub format_of_version : ℕ → Option Format
format_of_version n =
    if n == TYPED_VERSION then Some format.Typed else if n == FULL_VERSION then Some format.Full else None

-- a version is one that is read
abbrev pub known_version : Mark → Rest → Option Format → Result Format SchemaRefusal
known_version m r None = Err (refusal r.line m.column m.length kind.UnknownVersion)
known_version m r (Some f) = unless (refusal_at_end r) f

-- the first token after the word `version` is its number, and no other stands after it
abbrev pub version_number : Mark → Rest → Option ℕ → Result Format SchemaRefusal
version_number m r None = Err (refusal_of_token what.Number m r)
version_number m r (Some n) = known_version m r (format_of_version n)

-- what stands after the word `version` in its line
unfoldable pub read_version : Rest → Result Format SchemaRefusal
read_version r = take what.Number r >>= (λ t. version_number t.0 t.1 (number_in t.0.kind))

-- what a text declares from after the word `version` on, after whose line these stand
abbrev pub read_versioned : List (List ℕ) → Rest → Result Declarations SchemaRefusal
read_versioned lines r = read_version r >>= (λ f. read_all f (r.line + 1) lines)

-- whether the first token of a text makes its line a version line
unfoldable pub is_version : TokenKind → List ℕ → Bool
is_version token.Identifier word = bytes_eq word (codes "version")
is_version token.Quoted word = false
is_version (token.Number n) word = false
is_version token.Arrow word = false
is_version token.DoubleArrow word = false
is_version token.Empty word = false
is_version token.Colon word = false

-- what a line and those after it declare, where no token stands before them; `later` is what those
-- after it declare alone
abbrev pub opening_from : ℕ → List ℕ → List (List ℕ) → Result Declarations SchemaRefusal → List Mark
    → Option LexError → Result Declarations SchemaRefusal
opening_from number line lines later [] None = later
opening_from number line lines later [] (Some stop) = read_all format.Plain number (line ∷ lines)
opening_from number line lines later (m ∷ ms) stop =
    if is_version m.kind m.word
    then read_versioned lines (record { line = number; next_column = m.column + m.length; marks = ms; stop = stop })
    else read_all format.Plain number (line ∷ lines)

-- what the lines of a text declare from its first token on
unfoldable pub read_opening : ℕ → List (List ℕ) → Result Declarations SchemaRefusal
read_opening number [] = finish (number - 1) (no_declaration Bare)
read_opening number (line ∷ lines) =
    opening_from number line lines (read_opening (number + 1) lines) (lex (mode.numbered Bare) line).marks
    (lex (mode.numbered Bare) line).stop

-- what a schema text declares, or its refusal
unfoldable pub read_text : List ℕ → Result Declarations SchemaRefusal
read_text text = read_opening 1 (line_texts (without_mark text))

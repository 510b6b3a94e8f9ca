-- A certificate read from left to right: for `read_proof` and the laws that tie it to the meaning.
-- `Desk` cites only the tests of lines that do not count.
use Rattle.std.specs.Prelude.{ℕ, ◌+◌, ◌-◌, Bool, true, false, ◌&&◌, if◌then◌else◌, List, [], ◌∷◌, Option, None, Some}
use Rattle.std.specs.Prelude.{Result, Ok, Err, codes}
use Rattle.std.specs.Str.{bytes_eq}
use Rattle.schema_model.specs.Schemas.{Schema}
use Rattle.schema_model.specs.Schemas.{names_of, naming_of}
use Rattle.derivation.specs.Trees.{Tree}
use Rattle.lexer.specs.Modes as mode
use Rattle.lexer.specs.declared.token.LexError.{LexError}
use Rattle.lexer.specs.declared.token.TokenKind.{TokenKind}
use Rattle.lexer.specs.declared.token.TokenKind.TheVariants as token
use Rattle.lexer.specs.Lines.{line_texts, without_mark}
use Rattle.lexer.specs.Tokens.{Mark, Lexed, lex}
use Rattle.schema_grammar.specs.declared.refusal.SchemaRefusal.{SchemaRefusal}
use Rattle.proof_grammar.specs.declared.line_kind.LineKind.{LineKind}
use Rattle.proof_grammar.specs.declared.line_kind.LineKind.TheVariants.{Blank, Opening, Certificate}
use Rattle.proof_grammar.specs.CheckerStates.{CheckerStateValue, enter_line, finished_certificate, diagnostic_at}
use Rattle.proof_grammar.specs.Diagnostics.{Diagnostic, LineDiagnostic, bad_line}
use Rattle.proof_grammar.specs.Lines.{certificate_line}
use Rattle.schema_grammar.specs.Rests.{rest_from, ◌>>=◌}

-- the word `yes`
unfoldable pub is_yes : TokenKind → List ℕ → Bool
is_yes token.Identifier word = bytes_eq word (codes "yes")
is_yes _ word = false

-- whether neither a token is left, nor bytes that are none
abbrev pub is_blank_from : List Mark → Option LexError → Bool
is_blank_from [] None = true
is_blank_from [] (Some stop) = false
is_blank_from (m ∷ ms) stop = false

-- the same of a whole line
abbrev pub is_blank : Lexed → Bool
is_blank l = is_blank_from l.marks l.stop

-- what a line of these tokens is: blank, a `yes` where one may still come, or a line of the
-- certificate
abbrev pub kind_from : Bool → List Mark → Option LexError → LineKind
kind_from fresh [] None = Blank
kind_from fresh [] (Some stop) = Certificate
kind_from fresh (m ∷ ms) stop = if fresh && is_yes m.kind m.word && is_blank_from ms stop then Opening
    else Certificate

-- what a line is; `fresh` is whether no line with a token stood before
unfoldable pub line_kind : Bool → Lexed → LineKind
line_kind fresh l = kind_from fresh l.marks l.stop

-- a refusal of the grammar, as a diagnostic
abbrev pub in_line : {A : Type 0} → Result A SchemaRefusal → Result A Diagnostic
in_line (Ok x) = Ok x
in_line (Err e) = Err (bad_line e)

-- the checker state after a line of this kind, and whether a `yes` may still come
abbrev pub read_as : LineKind → Schema → Bool → ℕ → CheckerStateValue → List ℕ
    → Result (Bool × CheckerStateValue) Diagnostic
read_as Blank s fresh number state text = Ok (fresh, state)
read_as Opening s fresh number state text = Ok (false, state)
read_as Certificate s fresh number state text =
    in_line (certificate_line (names_of s) (rest_from number 1 (lex (mode.numbered (naming_of s)) text)))
    >>= λ l. enter_line s number state l
    >>= λ next. Ok (false, next)

-- the checker state after one line of the text more, and whether a `yes` may still come
unfoldable pub read_one : Schema → Bool → ℕ → CheckerStateValue → List ℕ
    → Result (Bool × CheckerStateValue) Diagnostic
read_one s fresh number state text =
    read_as (line_kind fresh (lex (mode.numbered (naming_of s)) text)) s fresh number state text

-- a diagnostic gets its line
abbrev pub at_line : {A : Type 0} → ℕ → Result A Diagnostic → Result A LineDiagnostic
at_line number (Ok x) = Ok x
at_line number (Err why) = Err (diagnostic_at number why)

-- the tree of lines, of which the first has this number
unfoldable pub read_certificate_lines : Schema → Bool → ℕ → CheckerStateValue → List (List ℕ)
    → Result Tree LineDiagnostic
read_certificate_lines s fresh number state [] = finished_certificate (number - 1) state
read_certificate_lines s fresh number state (text ∷ texts) =
    at_line number (read_one s fresh number state text)
    >>= λ next. read_certificate_lines s next.0 (number + 1) next.1 texts

-- the tree that a certificate spells, or the first diagnostic
unfoldable pub read_proof : Schema → List ℕ → Result Tree LineDiagnostic
read_proof s text =
    read_certificate_lines s true 1 (record { lines = []; unused = [] }) (line_texts (without_mark text))

-- A set of attributes as a text of its own, as the right side of a goal: what it means, how it is
-- refused and how it is read. For `read_set` and the command `basis` (`desk_inputs/Inputs`).
use Rattle.std.specs.Prelude.{◌≡◌, ◌⊎◌, ℕ, zero, suc, false, List, [], length, Option, Some, None, Result, Ok, Err, slice_get}
use Rattle.attr_sets.specs.Attributes.{Attributes, none}
use Rattle.schema_model.specs.declared.naming.Naming.{Naming}
use Rattle.dep_model.specs.Dependencies.{right_of}
use Rattle.lexer.specs.Modes as mode
use Rattle.lexer.specs.declared.token.LexError.{LexError}
use Rattle.lexer.specs.declared.token.TokenKind.{TokenKind}
use Rattle.lexer.specs.declared.token.TokenKind.TheVariants as token
use Rattle.lexer.specs.Tokens.{Mark, lex}
use Rattle.schema_grammar.specs.declared.format.Format.TheVariants as format
use Rattle.schema_grammar.specs.declared.refusal.SchemaRefusal.{SchemaRefusal}
use Rattle.schema_grammar.specs.declared.refusal.What.{What}
use Rattle.schema_grammar.specs.declared.refusal.What.TheVariants as what
use Rattle.schema_grammar.specs.declared.symbol.Sign.TheVariants as sign
use Rattle.schema_grammar.specs.DiagnosticKinds.{DiagnosticKind, expected, diagnostic_of_flaw}
use Rattle.schema_grammar.specs.Diagnostics.{DiagnosesOfWord, IsFirst, AtFirst, span_at}
use Rattle.schema_grammar.specs.Grammar.{after_sign}
use Rattle.schema_grammar.specs.Meanings.{HasTokens, IsSide}
use Rattle.schema_grammar.specs.Reading.{follow_rest}
use Rattle.schema_grammar.specs.Words.{is_word_token}
use Rattle.schema_grammar.specs.Rests.{◌>>=◌, rest_from}

-- a text over declared names means a set of attributes: it is a side
pub record MeansSet (naming : Naming) (declared : List (List ℕ)) (text : List ℕ) (x : Attributes) : Type 0 where
  pub marks : List Mark
  pub tokens : HasTokens (lex (mode.goal naming) text) marks
  pub side : IsSide format.Plain declared marks x

-- tokens begin with `()`
pub record BeginsEmpty (ms : List Mark) : Type 0 where
  pub first : Mark
  pub there : slice_get ms 0 ≡ Some first
  pub is_empty : first.kind ≡ token.Empty

-- a side can't have a token of this kind here: first only a word, a quoted name or `()`, and later only
-- a word or quoted name that comes after such
abbrev pub IsOutOfPlace : List Mark → ℕ → TokenKind → Type 0
IsOutOfPlace ms zero k = (is_word_token k ≡ false) × (k ≡ token.Empty → ⊥)
IsOutOfPlace ms (suc position) k = (is_word_token k ≡ false) ⊎ BeginsEmpty ms

-- what is wrong with the tokens of a side at a position, before which so many tokens stand: a token, the
-- line's end where no token stands, or bytes that are no token
abbrev pub SideDiagnostic : List (List ℕ) → List Mark → Option LexError → ℕ → DiagnosticKind → Type 0
SideDiagnostic declared ms stop position why =
    (((m : Mark) × (slice_get ms position ≡ Some m)
    × (DiagnosesOfWord format.Plain declared m why ⊎ ((why ≡ expected) × IsOutOfPlace ms position m.kind)))
    ⊎ ((why ≡ expected) × (position ≡ 0) × (ms ≡ []) × (stop ≡ None)))
    ⊎ ((s : LexError) × (stop ≡ Some s) × (position ≡ length ms) × (why ≡ diagnostic_of_flaw s.flaw))

-- what is wrong with a set over declared names
abbrev pub SetDiagnostic : Naming → List (List ℕ) → List ℕ → ℕ → DiagnosticKind → Type 0
SetDiagnostic naming declared text =
    SideDiagnostic declared (lex (mode.goal naming) text).marks (lex (mode.goal naming) text).stop

-- a side is wanted first, and then the line's end
abbrev pub SetWants : ℕ → What → Type 0
SetWants = AtFirst what.Side

-- a set over declared names is refused by its first diagnostic
abbrev pub RefusesSet : Naming → List (List ℕ) → List ℕ → SchemaRefusal → Type 0
RefusesSet naming declared text e =
    IsFirst (SetDiagnostic naming declared text) SetWants
    (span_at 1 1 (lex (mode.goal naming) text).marks (lex (mode.goal naming) text).stop) e

-- a set is refused by the first diagnostic, and read where there is none
abbrev pub FitsSet : Naming → List (List ℕ) → List ℕ → Result Attributes SchemaRefusal → Type 0
FitsSet naming declared text (Ok x) =
    (position : ℕ) (why : DiagnosticKind) → SetDiagnostic naming declared text position why → ⊥
FitsSet naming declared text (Err e) = RefusesSet naming declared text e

-- the set that a text states over declared names, or its refusal: it is read as what follows `() ->`
abbrev pub read_set : Naming → List (List ℕ) → List ℕ → Result Attributes SchemaRefusal
read_set naming declared text =
    follow_rest format.Plain declared (after_sign sign.Functional none) (rest_from 1 1 (lex (mode.goal naming) text))
    >>= (λ d. Ok (right_of d))

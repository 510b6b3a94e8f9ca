-- What is wrong with a dependency line, a declaring line or a goal, and which refusal is the first:
-- for schema texts (`Schemas`), goals, and the lines of plans and certificates.
use Rattle.std.specs.Prelude.{◌≡◌, ◌<◌, ◌≤◌, ◌⊎◌, ℕ, zero, suc, ◌+◌, true, false, List, [], ◌∷◌, ◌++◌, length, take, map, Option, Some, None, Result, Ok, Err, slice_get, is_some, All}
use Rattle.attr_sets.specs.declared.set.TheConstants.{MOST_ATTRIBUTES}
use Rattle.schema_grammar.specs.declared.format.TheConstants.{MOST_DEPENDENCY_LINES}
use Rattle.schema_model.specs.declared.naming.Naming.{Naming}
use Rattle.dep_model.specs.Dependencies.{Dependency}
use Rattle.schema_model.specs.Names.{is_type_text}
use Rattle.schema_model.specs.Schemas.{attribute_named}
use Rattle.lexer.specs.Modes as mode
use Rattle.lexer.specs.declared.token.LexError.{LexError}
use Rattle.lexer.specs.declared.token.TokenKind.{TokenKind}
use Rattle.lexer.specs.declared.token.TokenKind.TheVariants as token
use Rattle.lexer.specs.Tokens.{Mark, lex}
use Rattle.schema_grammar.specs.declared.line_kind.LineKind.{LineKind}
use Rattle.schema_grammar.specs.declared.line_kind.LineKind.TheVariants as begins
use Rattle.schema_grammar.specs.declared.line_kind.Purpose.{Purpose}
use Rattle.schema_grammar.specs.declared.line_kind.Purpose.TheVariants as purpose
use Rattle.schema_grammar.specs.declared.refusal.SchemaRefusal.{SchemaRefusal}
use Rattle.schema_grammar.specs.declared.refusal.SchemaRefusalKind.{SchemaRefusalKind}
use Rattle.schema_grammar.specs.declared.refusal.SchemaRefusalKind.TheVariants as kind
use Rattle.schema_grammar.specs.declared.refusal.Span.{Span}
use Rattle.schema_grammar.specs.declared.refusal.What.{What}
use Rattle.schema_grammar.specs.declared.refusal.What.TheVariants as what
use Rattle.schema_grammar.specs.declared.format.Format.{Format}
use Rattle.schema_grammar.specs.declared.format.Format.TheVariants as format
use Rattle.schema_grammar.specs.Declarations.{Declarations, is_scale, wanted_after}
use Rattle.schema_grammar.specs.DiagnosticKinds.{DiagnosticKind, reserved_name, double_name, unknown_name, expected, too_many_attributes, too_many_dependencies, no_column_type, diagnostic_kind, diagnostic_of_flaw, IsNoLater}
use Rattle.schema_grammar.specs.Meanings.{IsDependency}
use Rattle.schema_grammar.specs.Rests.{number_in}
use Rattle.schema_grammar.specs.Words.{is_word_token, is_reserved_token, line_kind}

abbrev pub kinds : List Mark → List TokenKind
kinds ms = map (λ m. m.kind) ms

-- tokens of these kinds are a dependency line, over some names
pub record IsLine (ks : List TokenKind) : Type 0 where
  pub declared : List (List ℕ)
  pub marks : List Mark
  pub dep : Dependency
  pub same_kinds : kinds marks ≡ ks
  pub dependency : IsDependency format.Plain declared marks dep

-- a dependency line begins with tokens of these kinds
pub record BeginsLine (ks : List TokenKind) : Type 0 where
  pub rest : List TokenKind
  pub line : IsLine (ks ++ rest)

-- the grammar can't go on at the token, or the line's end, before which so many tokens stand
pub record IsStuck (ks : List TokenKind) (stop : Option LexError) (position : ℕ) : Type 0 where
  pub before : BeginsLine (take position ks)
  pub here : ((position < length ks) × (BeginsLine (take (suc position) ks) → ⊥))
      ⊎ ((position ≡ length ks) × (stop ≡ None) × (IsLine ks → ⊥))

-- a grammar wants this after tokens of these kinds, since a line can go on with it: a side where `()` can
-- follow, an arrow where one can, and the line's end where they are a line
abbrev pub Wants : List TokenKind → What → Type 0
Wants ks what.Side = BeginsLine (ks ++ token.Empty ∷ [])
Wants ks what.Arrow = BeginsLine (ks ++ token.Arrow ∷ [])
Wants ks what.LineEnd = IsLine ks
Wants ks _ = ⊥

-- a word of a dependency that is reserved, or a word or quoted name that names no attribute
abbrev pub DiagnosesOfWord : Format → List (List ℕ) → Mark → DiagnosticKind → Type 0
DiagnosesOfWord f declared m why =
    (is_word_token m.kind ≡ true)
    × (((why ≡ reserved_name) × (is_reserved_token f m.kind m.word ≡ true))
    ⊎ ((why ≡ unknown_name) × (attribute_named declared m.word ≡ None)))

-- what is wrong with the tokens of a dependency line at a position, before which so many tokens stand
abbrev pub DependencyDiagnostic : Format → List (List ℕ) → List Mark → Option LexError → ℕ → DiagnosticKind
    → Type 0
DependencyDiagnostic f declared ms stop position why =
    (((m : Mark) × (slice_get ms position ≡ Some m) × DiagnosesOfWord f declared m why)
    ⊎ ((why ≡ expected) × IsStuck (kinds ms) stop position))
    ⊎ ((s : LexError) × (stop ≡ Some s) × (position ≡ length ms) × (why ≡ diagnostic_of_flaw s.flaw))

-- where a position is in the text
abbrev pub span_at : ℕ → ℕ → List Mark → Option LexError → ℕ → Span
span_at line next_column [] None position = record { line = line; column = next_column; length = 0 }
span_at line next_column [] (Some s) position = record { line = line; column = s.column; length = s.length }
span_at line next_column (m ∷ ms) stop zero =
    record { line = line; column = m.column; length = m.length }
span_at line next_column (m ∷ ms) stop (suc position) = span_at line (m.column + m.length) ms stop position

-- a refusal carries with it what is wanted: one of what is expected names a thing that is wanted there, and one of
-- a scale or a type that is none stands where a scale or a type is wanted
abbrev pub Carries : (What → Type 0) → SchemaRefusalKind → Type 0
Carries Wanted (kind.Expected what) = Wanted what
Carries Wanted kind.NoScale = Wanted what.Number
Carries Wanted kind.NoType = Wanted what.Type
Carries Wanted _ = Unit {0}

-- a refusal is the diagnostic at the first position, and there that of the least number; where it is of
-- what is expected, it carries what is wanted there
pub record IsFirst (Diagnostic : ℕ → DiagnosticKind → Type 0) (Wanted : ℕ → What → Type 0) (span : ℕ → Span)
    (e : SchemaRefusal) : Type 0 where
  pub position : ℕ
  pub stands : Diagnostic position (diagnostic_kind e.kind)
  pub carries : Carries (Wanted position) e.kind
  pub there : e.span ≡ span position
  pub least : (p : ℕ) (why : DiagnosticKind) → Diagnostic p why
      → IsNoLater position (diagnostic_kind e.kind) p why

-- what is wanted at a position of a dependency line, before which so many of its tokens stand
abbrev pub DependencyWants : List Mark → ℕ → What → Type 0
DependencyWants ms position = Wants (take position (kinds ms))

-- a dependency line is refused by its first diagnostic
abbrev pub RefusesDependency : Format → List (List ℕ) → ℕ → List Mark → Option LexError → SchemaRefusal → Type 0
RefusesDependency f declared line ms stop e =
    IsFirst (DependencyDiagnostic f declared ms stop) (DependencyWants ms) (span_at line 1 ms stop) e

-- a dependency line is refused by the first diagnostic, and read where there is none
abbrev pub FitsDependency : Format → List (List ℕ) → ℕ → List Mark → Option LexError
    → Result Dependency SchemaRefusal → Type 0
FitsDependency f declared line ms stop (Ok d) = (position : ℕ) (why : DiagnosticKind)
    → DependencyDiagnostic f declared ms stop position why → ⊥
FitsDependency f declared line ms stop (Err e) = RefusesDependency f declared line ms stop e

-- a goal over declared names is refused by its first diagnostic
abbrev pub RefusesGoal : Naming → List (List ℕ) → List ℕ → SchemaRefusal → Type 0
RefusesGoal naming declared text e =
    RefusesDependency format.Plain declared 1 (lex (mode.goal naming) text).marks (lex (mode.goal naming) text).stop e

-- a goal is refused by the first diagnostic, and read where there is none
abbrev pub FitsGoal : Naming → List (List ℕ) → List ℕ → Result Dependency SchemaRefusal → Type 0
FitsGoal naming declared text reading =
    FitsDependency format.Plain declared 1 (lex (mode.goal naming) text).marks (lex (mode.goal naming) text).stop
    reading

-- what is wrong with a word that is to declare a name, after these words of its line
abbrev pub NewNameDiagnostic : Format → Declarations → List Mark → Mark → DiagnosticKind → Type 0
NewNameDiagnostic f d before m why =
    (((why ≡ reserved_name) × (is_reserved_token f m.kind m.word ≡ true))
    ⊎ ((why ≡ double_name) × (is_some (attribute_named (d.names ++ map (λ w. w.word) before) m.word) ≡ true)))
    ⊎ ((why ≡ too_many_attributes) × (MOST_ATTRIBUTES ≤ length d.names + length before))

-- what is wrong with a word of a line of names, by what the names are for
abbrev pub NameDiagnostic : Format → Declarations → Purpose → List Mark → Mark → DiagnosticKind → Type 0
NameDiagnostic f d (purpose.Columns column) before m why = NewNameDiagnostic f d before m why
NameDiagnostic f d purpose.Nullable before m why = DiagnosesOfWord f d.names m why

-- what is wrong with a token of a line of names, after these tokens: what is wrong with it as a word, or
-- that it is none
abbrev pub TokenDiagnostic : (List Mark → Mark → DiagnosticKind → Type 0) → List Mark → Mark → DiagnosticKind
    → Type 0
TokenDiagnostic Wrong before m why =
    ((is_word_token m.kind ≡ true) × Wrong before m why) ⊎ ((why ≡ expected) × (is_word_token m.kind ≡ false))

-- what is wrong with names: at a token before which words stand, at the line's end where no word stands, or
-- at bytes that are no token
abbrev pub NamesDiagnostic : (List Mark → Mark → DiagnosticKind → Type 0) → List Mark → Option LexError → ℕ
    → DiagnosticKind → Type 0
NamesDiagnostic Wrong words stop position why =
    (((m : Mark) × (slice_get words position ≡ Some m)
    × All (λ w. is_word_token w.kind ≡ true) (take position words) × TokenDiagnostic Wrong (take position words) m why)
    ⊎ ((why ≡ expected) × (position ≡ 0) × (words ≡ []) × (stop ≡ None)))
    ⊎ ((s : LexError) × (stop ≡ Some s) × (position ≡ length words) × (why ≡ diagnostic_of_flaw s.flaw))

-- this is wanted first, and then the line's end
abbrev pub AtFirst : What → ℕ → What → Type 0
AtFirst first position w = ((position ≡ 0) × (w ≡ first)) ⊎ ((0 < position) × (w ≡ what.LineEnd))

-- a name is wanted first
abbrev pub NamesWant : ℕ → What → Type 0
NamesWant position w = AtFirst what.Name position w

-- names are refused by the first diagnostic, and read where there is none
abbrev pub FitsNames : (List Mark → Mark → DiagnosticKind → Type 0) → ℕ → ℕ → List Mark → Option LexError
    → Result Declarations SchemaRefusal → Type 0
FitsNames Wrong line next_column words stop (Ok whole) = (position : ℕ) (why : DiagnosticKind)
    → NamesDiagnostic Wrong words stop position why → ⊥
FitsNames Wrong line next_column words stop (Err e) =
    IsFirst (NamesDiagnostic Wrong words stop) NamesWant (span_at line next_column words stop) e

-- what is wrong with the token after `decimal`, or after `other`
abbrev pub TypeDiagnostic : LineKind → Mark → DiagnosticKind → Type 0
TypeDiagnostic begins.Decimal m why =
    ((why ≡ expected) × (number_in m.kind ≡ None))
    ⊎ ((n : ℕ) × (why ≡ no_column_type) × (number_in m.kind ≡ Some n) × (is_scale m n ≡ false))
TypeDiagnostic begins.Other m why =
    ((why ≡ expected) × (m.kind ≡ token.Quoted → ⊥))
    ⊎ ((why ≡ no_column_type) × (m.kind ≡ token.Quoted) × (is_type_text m.word ≡ false))
TypeDiagnostic _ m why = ⊥

-- what is wrong with the tokens after it
abbrev pub ColumnsDiagnostic : Format → Declarations → LineKind → List Mark → Option LexError → ℕ → DiagnosticKind
    → Type 0
ColumnsDiagnostic f d k [] stop position why =
    (position ≡ 0) × (((why ≡ expected) × (stop ≡ None))
    ⊎ ((s : LexError) × (stop ≡ Some s) × (why ≡ diagnostic_of_flaw s.flaw)))
ColumnsDiagnostic f d k (m ∷ words) stop zero why = TypeDiagnostic k m why
ColumnsDiagnostic f d k (m ∷ words) stop (suc position) why =
    NamesDiagnostic (NewNameDiagnostic f d) words stop position why

-- a scale or a type is wanted first, then a name, and then the line's end
abbrev pub ColumnsWant : LineKind → ℕ → What → Type 0
ColumnsWant k zero w = w ≡ wanted_after k
ColumnsWant k (suc position) w = NamesWant position w

-- what is wrong with a line of a schema text that this token begins, after what is declared
abbrev pub HeadDiagnostic : Format → Declarations → Mark → List Mark → Option LexError → LineKind → ℕ
    → DiagnosticKind → Type 0
HeadDiagnostic f d m ms stop (begins.Names p) position why =
    (later : ℕ) × (position ≡ suc later) × NamesDiagnostic (NameDiagnostic f d p) ms stop later why
HeadDiagnostic f d m ms stop begins.Dependency position why =
    DependencyDiagnostic f d.names (m ∷ ms) stop position why
    ⊎ ((why ≡ too_many_dependencies) × (position ≡ 0) × (MOST_DEPENDENCY_LINES ≤ length d.deps))
HeadDiagnostic f d m ms stop k position why =
    (later : ℕ) × (position ≡ suc later) × ColumnsDiagnostic f d k ms stop later why

-- what is wanted at a position of such a line
abbrev pub HeadWants : Mark → List Mark → LineKind → ℕ → What → Type 0
HeadWants m ms (begins.Names p) position what = (later : ℕ) × (position ≡ suc later) × NamesWant later what
HeadWants m ms begins.Dependency position what = DependencyWants (m ∷ ms) position what
HeadWants m ms k position what = (later : ℕ) × (position ≡ suc later) × ColumnsWant k later what

-- what is wrong with a line of a schema text, after what is declared
abbrev pub TextLineDiagnostic : Format → Declarations → List Mark → Option LexError → ℕ → DiagnosticKind → Type 0
TextLineDiagnostic f d [] stop position why =
    (s : LexError) × (stop ≡ Some s) × (position ≡ 0) × (why ≡ diagnostic_of_flaw s.flaw)
TextLineDiagnostic f d (m ∷ ms) stop position why =
    HeadDiagnostic f d m ms stop (line_kind f m.kind m.word) position why

-- what is wanted at a position of it
abbrev pub TextLineWants : Format → List Mark → ℕ → What → Type 0
TextLineWants f [] position what = ⊥
TextLineWants f (m ∷ ms) position what = HeadWants m ms (line_kind f m.kind m.word) position what

-- a line is refused by the first diagnostic, and read where there is none
abbrev pub FitsTextLine : Format → Declarations → ℕ → List Mark → Option LexError
    → Result Declarations SchemaRefusal → Type 0
FitsTextLine f d line ms stop (Ok whole) = (position : ℕ) (why : DiagnosticKind)
    → TextLineDiagnostic f d ms stop position why → ⊥
FitsTextLine f d line ms stop (Err e) =
    IsFirst (TextLineDiagnostic f d ms stop) (TextLineWants f ms) (span_at line 1 ms stop) e

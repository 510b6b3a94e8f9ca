-- What a schema text means, and which refusal is its first: for `read_schema` and all commands that
-- read a schema (`desk_inputs/Inputs`).
use Rattle.std.specs.Prelude.{◌≡◌, ◌<◌, ◌⊎◌, ℕ, ◌+◌, ◌-◌, Result, Ok, Err, Bool, true, false, List, [], ◌∷◌, ◌++◌, length, Option, Some, None, All, slice_get}
use Rattle.attr_sets.specs.declared.set.TheConstants.{MOST_ATTRIBUTES}
use Rattle.schema_model.specs.declared.column_type.ColumnType.{ColumnType}
use Rattle.schema_model.specs.declared.column_type.ColumnType.TheVariants as types
use Rattle.schema_grammar.specs.declared.format.TheConstants.{MOST_DEPENDENCY_LINES}
use Rattle.schema_model.specs.declared.naming.Naming.TheVariants.{Bare}
use Rattle.dep_model.specs.Dependencies.{Dependency}
use Rattle.schema_model.specs.Names.{is_type_text}
use Rattle.schema_model.specs.Schemas.{attribute_named}
use Rattle.lexer.specs.Modes as mode
use Rattle.lexer.specs.declared.token.LexError.{LexError}
use Rattle.lexer.specs.declared.token.TokenKind.TheVariants as token
use Rattle.lexer.specs.Lines.{line_texts, without_mark}
use Rattle.lexer.specs.Tokens.{Mark, lex}
use Rattle.schema_grammar.specs.declared.line_kind.LineKind.TheVariants as begins
use Rattle.schema_grammar.specs.declared.line_kind.Purpose.TheVariants as purpose
use Rattle.schema_grammar.specs.declared.refusal.SchemaRefusal.{SchemaRefusal}
use Rattle.schema_grammar.specs.declared.refusal.SchemaRefusalKind.TheVariants as kind
use Rattle.schema_grammar.specs.declared.refusal.What.{What}
use Rattle.schema_grammar.specs.declared.refusal.What.TheVariants as what
use Rattle.schema_grammar.specs.DiagnosticKinds.{DiagnosticKind, expected, unknown_version, diagnostic_kind, diagnostic_of_flaw, IsNoLater}
use Rattle.schema_grammar.specs.Diagnostics.{TextLineDiagnostic, TextLineWants, AtFirst, Carries, IsFirst, span_at}
use Rattle.schema_grammar.specs.Refusals.{refusal}
use Rattle.schema_grammar.specs.declared.format.Format.{Format}
use Rattle.schema_grammar.specs.declared.format.Format.TheVariants as format
use Rattle.schema_grammar.specs.Declarations.{Declarations, no_declaration, add_name, add_dependency, add_nullable, is_scale}
use Rattle.schema_grammar.specs.Meanings.{HasTokens, IsDependency, IsAttribute, attributes_of_words}
use Rattle.schema_grammar.specs.LineTokens.{naming_in, lex_line}
use Rattle.schema_grammar.specs.Texts.{is_version, format_of_version}
use Rattle.schema_grammar.specs.Words.{is_word_token, is_reserved_token, columns_of, line_kind}
use Rattle.schema_grammar.specs.Rests.{number_in}

-- a word or a quoted name that declares one name more
pub record IsNewName (f : Format) (d : Declarations) (m : Mark) : Type 0 where
  pub word : is_word_token m.kind ≡ true
  pub not_reserved : is_reserved_token f m.kind m.word ≡ false
  pub new : attribute_named d.names m.word ≡ None
  pub room : length d.names < MOST_ATTRIBUTES

-- words declare a name each, for columns of one type
abbrev pub DeclareNames : Format → ColumnType → Declarations → List Mark → Declarations → Type 0
DeclareNames f column d [] whole = whole ≡ d
DeclareNames f column d (m ∷ ms) whole =
    IsNewName f d m × DeclareNames f column (add_name d m.word column) ms whole

-- a word declares columns of a type, and these words follow it
pub record ByWord (f : Format) (ms : List Mark) (column : ColumnType) (words : List Mark) : Type 0 where
  pub head : Mark
  pub cut : ms ≡ head ∷ words
  pub declaring : line_kind f head.kind head.word ≡ columns_of column

-- `decimal` and a scale do so: a number from 0 to 9, in one digit
pub record ByScale (f : Format) (ms : List Mark) (column : ColumnType) (words : List Mark) : Type 0 where
  pub head : Mark
  pub number : Mark
  pub scale : ℕ
  pub cut : ms ≡ head ∷ number ∷ words
  pub declaring : line_kind f head.kind head.word ≡ begins.Decimal
  pub is_number : number.kind ≡ token.Number scale
  pub one_digit : is_scale number scale ≡ true
  pub decimal : column ≡ types.Decimal scale

-- or `other` and the text of a type between quotes
pub record ByText (f : Format) (ms : List Mark) (column : ColumnType) (words : List Mark) : Type 0 where
  pub head : Mark
  pub text : Mark
  pub cut : ms ≡ head ∷ text ∷ words
  pub declaring : line_kind f head.kind head.word ≡ begins.Other
  pub is_quoted : text.kind ≡ token.Quoted
  pub is_type : is_type_text text.word ≡ true
  pub other : column ≡ types.Other text.word

-- a declaring line: columns of a type are declared, with one or more names
pub record IsDeclaring (f : Format) (d : Declarations) (line : List ℕ) (whole : Declarations) : Type 0 where
  pub marks : List Mark
  pub words : List Mark
  pub column : ColumnType
  pub tokens : HasTokens (lex_line f line) marks
  pub declares : (ByWord f marks column words ⊎ ByScale f marks column words) ⊎ ByText f marks column words
  pub not_empty : 0 < length words
  pub names : DeclareNames f column d words whole

-- a line of attributes, one or more, of which a value may be missing
pub record IsAllowing (f : Format) (d : Declarations) (line : List ℕ) (whole : Declarations) : Type 0 where
  pub head : Mark
  pub words : List Mark
  pub tokens : HasTokens (lex_line f line) (head ∷ words)
  pub allowing : line_kind f head.kind head.word ≡ begins.Names purpose.Nullable
  pub not_empty : 0 < length words
  pub each : All (IsAttribute f d.names) words
  pub adds : whole ≡ add_nullable d (attributes_of_words d.names words)

-- a dependency line, which no word of other lines begins
pub record IsStating (f : Format) (number : ℕ) (d : Declarations) (line : List ℕ) (whole : Declarations)
    : Type 0 where
  pub head : Mark
  pub others : List Mark
  pub dep : Dependency
  pub tokens : HasTokens (lex_line f line) (head ∷ others)
  pub stating : line_kind f head.kind head.word ≡ begins.Dependency
  pub dependency : IsDependency f d.names (head ∷ others) dep
  pub room : length d.deps < MOST_DEPENDENCY_LINES
  pub adds : whole ≡ add_dependency d dep number

-- a line without tokens means nothing
pub record IsBlank (f : Format) (d : Declarations) (line : List ℕ) (whole : Declarations) : Type 0 where
  pub tokens : HasTokens (lex_line f line) []
  pub same : whole ≡ d

-- after a line of this number the whole is declared
abbrev pub MeansTextLine : Format → ℕ → Declarations → List ℕ → Declarations → Type 0
MeansTextLine f number d line whole =
    (IsBlank f d line whole ⊎ IsDeclaring f d line whole)
    ⊎ (IsAllowing f d line whole ⊎ IsStating f number d line whole)

-- the same of lines, of which the first has this number
abbrev pub MeansLines : Format → ℕ → Declarations → List (List ℕ) → Declarations → Type 0
MeansLines f number d [] whole = whole ≡ d
MeansLines f number d (line ∷ lines) whole =
    (next : Declarations) × MeansTextLine f number d line next × MeansLines f (number + 1) next lines whole

-- whether a line begins with `version`; where it has no token, what the later lines say
abbrev pub begins_version : List Mark → Option LexError → Bool → Bool
begins_version [] None later = later
begins_version [] (Some stop) later = false
begins_version (m ∷ ms) stop later = is_version m.kind m.word

-- whether the first token of the lines is the word `version`
unfoldable pub has_version_line : List (List ℕ) → Bool
has_version_line [] = false
has_version_line (line ∷ lines) =
    begins_version (lex (mode.numbered Bare) line).marks (lex (mode.numbered Bare) line).stop (has_version_line lines)

-- what lines mean after nothing
abbrev pub MeansAll : Format → ℕ → List (List ℕ) → Declarations → Type 0
MeansAll f number lines whole = MeansLines f number (no_declaration (naming_in f)) lines whole

-- a text without a version line
pub record IsPlainText (lines : List (List ℕ)) (whole : Declarations) : Type 0 where
  pub no_version : has_version_line lines ≡ false
  pub declared : MeansAll format.Plain 1 lines whole

-- a version line: the word `version`, and the number of a version of texts of this format
pub record IsVersionLine (line : List ℕ) (f : Format) : Type 0 where
  pub head : Mark
  pub number : Mark
  pub version : ℕ
  pub tokens : HasTokens (lex (mode.numbered Bare) line) (head ∷ number ∷ [])
  pub is_word : is_version head.kind head.word ≡ true
  pub is_number : number.kind ≡ token.Number version
  pub is_read : format_of_version version ≡ Some f

-- a text with a version line, before which no line has a token
pub record IsVersionedText (lines : List (List ℕ)) (whole : Declarations) : Type 0 where
  pub format : Format
  pub before : List (List ℕ)
  pub version : List ℕ
  pub later : List (List ℕ)
  pub cut : lines ≡ before ++ version ∷ later
  pub blank : All (λ line. HasTokens (lex (mode.numbered Bare) line) []) before
  pub versioned : IsVersionLine version format
  pub declared : MeansAll format (length before + 2) later whole

-- a schema text means what it declares: one attribute at least
pub record MeansSchema (text : List ℕ) (whole : Declarations) : Type 0 where
  pub not_empty : 0 < length whole.names
  pub lines : IsPlainText (line_texts (without_mark text)) whole
      ⊎ IsVersionedText (line_texts (without_mark text)) whole

-- what is wrong with lines, of which the first has this number: on one of them, after lines that have
-- a meaning
pub record LinesDiagnostic (f : Format) (first : ℕ) (d : Declarations) (lines : List (List ℕ))
    (number position : ℕ) (why : DiagnosticKind) : Type 0 where
  pub before : List (List ℕ)
  pub line : List ℕ
  pub after : List (List ℕ)
  pub declared : Declarations
  pub cut : lines ≡ before ++ line ∷ after
  pub means : MeansLines f first d before declared
  pub stands_on : number ≡ first + length before
  pub diagnostic : TextLineDiagnostic f declared (lex_line f line).marks (lex_line f line).stop position why

-- a refusal is the diagnostic of the first line, there at the first position, and there of the least
-- number; where it is of what is expected, it carries what is wanted there
pub record IsFirstOfLines (f : Format) (first : ℕ) (d : Declarations) (lines : List (List ℕ))
    (e : SchemaRefusal) : Type 0 where
  pub position : ℕ
  pub stands : LinesDiagnostic f first d lines e.span.line position (diagnostic_kind e.kind)
  pub carries : Carries (TextLineWants f (lex_line f stands.line).marks position) e.kind
  pub there : e.span ≡ span_at e.span.line 1 (lex_line f stands.line).marks
      (lex_line f stands.line).stop position
  pub least : (l p : ℕ) (why : DiagnosticKind) → LinesDiagnostic f first d lines l p why
      → (e.span.line < l) ⊎ ((e.span.line ≡ l) × IsNoLater position (diagnostic_kind e.kind) p why)

-- nothing is wrong with the lines, but that they declare nothing; refused at the last of them
pub record DeclaresNothing (f : Format) (first : ℕ) (d : Declarations) (lines : List (List ℕ))
    (e : SchemaRefusal) : Type 0 where
  pub whole : Declarations
  pub means : MeansLines f first d lines whole
  pub nothing : length whole.names ≡ 0
  pub at_the_end : e ≡ refusal (first + length lines - 1) 1 0 kind.NoAttributes

-- lines are refused by the first diagnostic, or as declaring nothing
abbrev pub RefusesLines : Format → ℕ → Declarations → List (List ℕ) → SchemaRefusal → Type 0
RefusesLines f first d lines e = IsFirstOfLines f first d lines e ⊎ DeclaresNothing f first d lines e

-- the same of lines after nothing
abbrev pub RefusesAll : Format → ℕ → List (List ℕ) → SchemaRefusal → Type 0
RefusesAll f first lines e = RefusesLines f first (no_declaration (naming_in f)) lines e

-- lines are refused by the first diagnostic, or as declaring nothing, and read where there is neither
abbrev pub FitsLines : Format → ℕ → Declarations → List (List ℕ) → Result Declarations SchemaRefusal → Type 0
FitsLines f first d lines (Ok whole) =
    (l p : ℕ) (why : DiagnosticKind) → LinesDiagnostic f first d lines l p why → ⊥
FitsLines f first d lines (Err e) = RefusesLines f first d lines e

-- the same of lines after nothing
abbrev pub FitsAll : Format → ℕ → List (List ℕ) → Result Declarations SchemaRefusal → Type 0
FitsAll f first lines reading = FitsLines f first (no_declaration (naming_in f)) lines reading

-- what is wrong with the tokens after the word `version`: no number, the number of no version that is
-- read, a token after the number, or bytes that are no token
abbrev pub VersionDiagnostic : List Mark → Option LexError → ℕ → DiagnosticKind → Type 0
VersionDiagnostic ms stop position why =
    ((((m : Mark) × (slice_get ms 0 ≡ Some m) × (number_in m.kind ≡ None) × (position ≡ 0) × (why ≡ expected))
    ⊎ ((ms ≡ []) × (stop ≡ None) × (position ≡ 0) × (why ≡ expected)))
    ⊎ (((m : Mark) × (n : ℕ) × (slice_get ms 0 ≡ Some m) × (number_in m.kind ≡ Some n)
    × (format_of_version n ≡ None) × (position ≡ 0) × (why ≡ unknown_version))
    ⊎ ((m : Mark) × (slice_get ms 1 ≡ Some m) × (position ≡ 1) × (why ≡ expected))))
    ⊎ ((s : LexError) × (stop ≡ Some s) × (position ≡ length ms) × (why ≡ diagnostic_of_flaw s.flaw))

-- after the word `version` a number is wanted first
abbrev pub VersionWants : ℕ → What → Type 0
VersionWants position w = AtFirst what.Number position w

-- a version line is refused by its first diagnostic
abbrev pub RefusesVersion : ℕ → ℕ → List Mark → Option LexError → SchemaRefusal → Type 0
RefusesVersion line next_column ms stop e =
    IsFirst (VersionDiagnostic ms stop) VersionWants (span_at line next_column ms stop) e

-- a version line is refused by the first diagnostic, and read where there is none
abbrev pub FitsVersion : ℕ → ℕ → List Mark → Option LexError → Result Format SchemaRefusal → Type 0
FitsVersion line next_column ms stop (Ok f) =
    (position : ℕ) (why : DiagnosticKind) → VersionDiagnostic ms stop position why → ⊥
FitsVersion line next_column ms stop (Err e) = RefusesVersion line next_column ms stop e

-- a text whose first token is the word `version`
pub record HasVersionLine (lines : List (List ℕ)) : Type 0 where
  pub before : List (List ℕ)
  pub version : List ℕ
  pub later : List (List ℕ)
  pub cut : lines ≡ before ++ version ∷ later
  pub blank : All (λ line. HasTokens (lex (mode.numbered Bare) line) []) before
  pub head : Mark
  pub others : List Mark
  pub starts : (lex (mode.numbered Bare) version).marks ≡ head ∷ others
  pub is_word : is_version head.kind head.word ≡ true

-- it is refused at its version line, or by its later lines
abbrev pub RefusesVersioned : (number : ℕ) (lines : List (List ℕ)) → HasVersionLine lines → SchemaRefusal → Type 0
RefusesVersioned number lines text e =
    RefusesVersion (length text.before + number) (text.head.column + text.head.length) text.others
    (lex (mode.numbered Bare) text.version).stop e
    ⊎ ((f : Format) × IsVersionLine text.version f
    × RefusesAll f (length text.before + number + 1) text.later e)

-- a text is refused by its first diagnostic, or as declaring nothing
abbrev pub RefusesText : ℕ → List (List ℕ) → SchemaRefusal → Type 0
RefusesText number lines e =
    ((has_version_line lines ≡ false) × RefusesAll format.Plain number lines e)
    ⊎ ((text : HasVersionLine lines) × RefusesVersioned number lines text e)

-- a schema text is refused, from its first line on
abbrev pub RefusesSchema : List ℕ → SchemaRefusal → Type 0
RefusesSchema text e = RefusesText 1 (line_texts (without_mark text)) e

-- a text has no diagnostic
abbrev pub IsFineText : ℕ → List (List ℕ) → Declarations → Type 0
IsFineText number lines whole =
    ((has_version_line lines ≡ false) × FitsAll format.Plain number lines (Ok whole))
    ⊎ ((text : HasVersionLine lines) × (f : Format) × IsVersionLine text.version f
    × FitsAll f (length text.before + number + 1) text.later (Ok whole))

-- a text is refused by the first diagnostic, or as declaring nothing, and read where there is neither
abbrev pub FitsText : ℕ → List (List ℕ) → Result Declarations SchemaRefusal → Type 0
FitsText number lines (Ok whole) = IsFineText number lines whole
FitsText number lines (Err e) = RefusesText number lines e

-- the same from the first line of a schema text on
abbrev pub FitsSchema : List ℕ → Result Declarations SchemaRefusal → Type 0
FitsSchema text reading = FitsText 1 (line_texts (without_mark text)) reading

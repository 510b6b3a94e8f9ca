-- What is wrong with a plan text, and which refusal is the first: for `read_plan` and the commands
-- that read plans (`desk_inputs/Plans`).
use Rattle.std.specs.Prelude.{◌≡◌, ◌≤◌, ◌⊎◌, ℕ, ◌+◌, zero, suc, Bool, true, false, not, ◌&&◌, ◌||◌, if◌then◌else◌, List, [], ◌∷◌, ◌++◌, length, Option, Some, None}
use Rattle.std.specs.List.{list_any}
use Rattle.attr_sets.specs.Attributes.{Attributes, below, IsFirstFrom}
use Rattle.schema_model.specs.declared.naming.Naming.{Naming}
use Rattle.lexer.specs.declared.token.LexError.{LexError}
use Rattle.lexer.specs.declared.token.TokenKind.{TokenKind}
use Rattle.lexer.specs.declared.token.TokenKind.TheVariants as token
use Rattle.lexer.specs.Lines.{line_texts, without_mark}
use Rattle.lexer.specs.Tokens.{Mark, is_colon}
use Rattle.schema_grammar.specs.declared.format.Format.TheVariants as format
use Rattle.schema_grammar.specs.declared.refusal.Span.{Span}
use Rattle.schema_grammar.specs.declared.refusal.What.{What}
use Rattle.schema_grammar.specs.declared.refusal.What.TheVariants as what
use Rattle.schema_grammar.specs.Diagnostics.{DiagnosesOfWord, Carries, span_at}
use Rattle.schema_grammar.specs.Words.{is_word_token, is_reserved_token}
use Rattle.schema_grammar.specs.DiagnosticKinds.{DiagnosticKind, reserved_name, double_name, expected, empty_scheme, too_many_schemes, IsNoLater, diagnostic_of_flaw}
use Rattle.table_names.specs.TableNames.{is_given}
use Rattle.plan_printer.specs.NamedPlans.{NamedSchemes}
use Rattle.plan_grammar.specs.declared.refusal.PlanRefusal.{PlanRefusal}
use Rattle.plan_grammar.specs.declared.refusal.PlanRefusal.TheVariants as plan
use Rattle.plans.specs.declared.bounds.TheConstants.{MOST_SCHEMES}
use Rattle.plan_grammar.specs.LineTokens.{is_scheme, is_table, lex_line}
use Rattle.plan_grammar.specs.Meanings.{is_kept_word, MeansTableLines}
use Rattle.plan_grammar.specs.Refusals.{plan_diagnostic_kind}

-- bytes that are no token
abbrev pub FlawDiagnostic : Option LexError → DiagnosticKind → Type 0
FlawDiagnostic stop why = (s : LexError) × (stop ≡ Some s) × (why ≡ diagnostic_of_flaw s.flaw)

-- whether a token begins a line of a plan: it is the word `scheme` or the word `table`
abbrev pub opens_line : TokenKind → List ℕ → Bool
opens_line kind word = is_scheme kind word || is_table kind word

-- what is wrong with the first token of a line, before which lines of so many tables stand: it begins no line
-- of a plan, or one line too many
abbrev pub FirstTokenDiagnostic : ℕ → Mark → DiagnosticKind → Type 0
FirstTokenDiagnostic earlier m why =
    ((opens_line m.kind m.word ≡ false)
    × (((why ≡ reserved_name) × (is_reserved_token format.Plain m.kind m.word ≡ true))
    ⊎ (why ≡ expected)))
    ⊎ ((opens_line m.kind m.word ≡ true) × (MOST_SCHEMES ≤ earlier) × (why ≡ too_many_schemes))

-- what is wrong with a token before which the attributes begin; `first` is whether none stands before it
abbrev pub WordDiagnostic : List (List ℕ) → Bool → Mark → DiagnosticKind → Type 0
WordDiagnostic names first m why =
    DiagnosesOfWord format.Plain names m why
    ⊎ (((first ≡ true) × (m.kind ≡ token.Empty) × (why ≡ empty_scheme))
    ⊎ ((is_word_token m.kind ≡ false) × (first ≡ true → m.kind ≡ token.Empty → ⊥) × (why ≡ expected)))

-- what is wrong with the attributes at a position, before which so many tokens of them stand
abbrev pub WordsDiagnostic : List (List ℕ) → Bool → List Mark → Option LexError → ℕ → DiagnosticKind → Type 0
WordsDiagnostic names first [] stop position why =
    (position ≡ 0) × (((stop ≡ None) × (first ≡ true) × (why ≡ empty_scheme)) ⊎ FlawDiagnostic stop why)
WordsDiagnostic names first (m ∷ ms) stop zero why = WordDiagnostic names first m why
WordsDiagnostic names first (m ∷ ms) stop (suc position) why = WordsDiagnostic names false ms stop position why

-- whether a token is a word, which may name a table
abbrev pub is_label : TokenKind → Bool
is_label token.Identifier = true
is_label _ = false

-- what is wrong with the token after the word `table`, where earlier lines give these names
abbrev pub LabelDiagnostic : List (Option (List ℕ)) → Mark → DiagnosticKind → Type 0
LabelDiagnostic earlier m why =
    ((is_label m.kind ≡ false) × (why ≡ expected))
    ⊎ ((is_label m.kind ≡ true)
    × (((why ≡ reserved_name) × (is_kept_word m.word ≡ true))
    ⊎ ((why ≡ double_name) × (list_any (is_given m.word) earlier ≡ true))))

-- what is wrong after the name of a table at a position
abbrev pub ColonDiagnostic : List (List ℕ) → List Mark → Option LexError → ℕ → DiagnosticKind → Type 0
ColonDiagnostic names [] stop position why =
    (position ≡ 0) × (((stop ≡ None) × (why ≡ expected)) ⊎ FlawDiagnostic stop why)
ColonDiagnostic names (m ∷ ms) stop zero why = (is_colon m.kind ≡ false) × (why ≡ expected)
ColonDiagnostic names (m ∷ ms) stop (suc position) why = WordsDiagnostic names true ms stop position why

-- what is wrong after the word `table` at a position
abbrev pub NamedDiagnostic : List (List ℕ) → List (Option (List ℕ)) → List Mark → Option LexError → ℕ → DiagnosticKind
    → Type 0
NamedDiagnostic names earlier [] stop position why =
    (position ≡ 0) × (((stop ≡ None) × (why ≡ expected)) ⊎ FlawDiagnostic stop why)
NamedDiagnostic names earlier (m ∷ ms) stop zero why = LabelDiagnostic earlier m why
NamedDiagnostic names earlier (m ∷ ms) stop (suc position) why = ColonDiagnostic names ms stop position why

-- what is wrong after the first token, by whether it is the word `table`
abbrev pub RestDiagnostic : Bool → List (List ℕ) → List (Option (List ℕ)) → List Mark → Option LexError → ℕ
    → DiagnosticKind → Type 0
RestDiagnostic true names earlier ms stop position why = NamedDiagnostic names earlier ms stop position why
RestDiagnostic false names earlier ms stop position why = WordsDiagnostic names true ms stop position why

-- what is wrong with a line at a position, before which so many of its tokens stand
abbrev pub TableLineDiagnostic : List (List ℕ) → List (Option (List ℕ)) → List Mark → Option LexError → ℕ
    → DiagnosticKind → Type 0
TableLineDiagnostic names earlier [] stop position why = (position ≡ 0) × FlawDiagnostic stop why
TableLineDiagnostic names earlier (m ∷ ms) stop zero why = FirstTokenDiagnostic (length earlier) m why
TableLineDiagnostic names earlier (m ∷ ms) stop (suc position) why =
    RestDiagnostic (is_table m.kind m.word) names earlier ms stop position why

-- what is expected at a position of the attributes
abbrev pub wanted_after : Bool → ℕ → What
wanted_after first zero = if first then what.Name else what.LineEnd
wanted_after first (suc position) = wanted_after false position

-- after the name of a table
abbrev pub wanted_named : ℕ → What
wanted_named zero = what.Colon
wanted_named (suc position) = wanted_after true position

-- after the word `table`
abbrev pub wanted_name : ℕ → What
wanted_name zero = what.Name
wanted_name (suc position) = wanted_named position

abbrev pub wanted_rest : Bool → ℕ → What
wanted_rest true position = wanted_name position
wanted_rest false position = wanted_after true position

-- and at a position of the line
abbrev pub line_wanted : List Mark → ℕ → What
line_wanted ms zero = what.Scheme
line_wanted [] (suc position) = what.Scheme
line_wanted (m ∷ ms) (suc position) = wanted_rest (is_table m.kind m.word) position

-- a refusal stands at a position of a line
abbrev pub SpansPosition : ℕ → (ℕ → Span) → (ℕ → What) → ℕ → PlanRefusal → Type 0
SpansPosition line span want position (plan.Text e) = (e.span ≡ span position) × Carries (λ w. w ≡ want position) e.kind
SpansPosition line span want position (plan.EmptyScheme l) = l ≡ line
SpansPosition line span want position (plan.TooManySchemes l) = l ≡ line
SpansPosition line span want position (plan.NotCovered a) = ⊥

-- a refusal is the diagnostic at the first position, and there that of the least number
pub record IsFirstOf (Diagnostic : ℕ → DiagnosticKind → Type 0) (Stands : ℕ → PlanRefusal → Type 0) (e : PlanRefusal)
    : Type 0 where
  pub position : ℕ
  pub diagnostic : Diagnostic position (plan_diagnostic_kind e)
  pub there : Stands position e
  pub least : (p : ℕ) (why : DiagnosticKind) → Diagnostic p why → IsNoLater position (plan_diagnostic_kind e) p why

-- a line is refused by its first diagnostic
abbrev pub RefusesLine : List (List ℕ) → ℕ → List (Option (List ℕ)) → List Mark → Option LexError → PlanRefusal → Type 0
RefusesLine names line earlier ms stop e =
    IsFirstOf (TableLineDiagnostic names earlier ms stop)
    (SpansPosition line (span_at line 1 ms stop) (line_wanted ms)) e

-- nothing is wrong with it
abbrev pub IsFine : List (List ℕ) → List (Option (List ℕ)) → List Mark → Option LexError → Type 0
IsFine names earlier ms stop =
    (position : ℕ) (why : DiagnosticKind) → TableLineDiagnostic names earlier ms stop position why → ⊥

-- the name that a line gives to its table, where nothing is wrong with the line
abbrev pub name_given : List Mark → Option (List ℕ)
name_given (head ∷ label ∷ ms) = if is_table head.kind head.word then Some label.word else None
name_given _ = None

-- the names that lines give, with that of one more line with which nothing is wrong
abbrev pub names_with : List (Option (List ℕ)) → List Mark → List (Option (List ℕ))
names_with earlier [] = earlier
names_with earlier (m ∷ ms) = earlier ++ name_given (m ∷ ms) ∷ []

-- lines, of which the first has this number, are refused by the first line with which something is wrong
abbrev pub RefusesTableLines : Naming → List (List ℕ) → ℕ → List (Option (List ℕ)) → List (List ℕ) → PlanRefusal
    → Type 0
RefusesTableLines naming names number earlier [] e = ⊥
RefusesTableLines naming names number earlier (line ∷ lines) e =
    RefusesLine names number earlier (lex_line naming line).marks (lex_line naming line).stop e
    ⊎ (IsFine names earlier (lex_line naming line).marks (lex_line naming line).stop
    × RefusesTableLines naming names (number + 1) (names_with earlier (lex_line naming line).marks) lines e)

-- the attributes that are in no scheme
abbrev pub uncovered_attributes : ℕ → List Attributes → Attributes
uncovered_attributes n schemes k = below n k && not (list_any (λ scheme. scheme k) schemes)

-- the lines mean tables, and this is the first attribute that is in no scheme
pub record LeavesOut (naming : Naming) (names : List (List ℕ)) (lines : List (List ℕ)) (e : PlanRefusal) : Type 0 where
  pub tables : NamedSchemes
  pub means : MeansTableLines naming names [] lines tables
  pub schemes_fit : length tables.schemes ≤ MOST_SCHEMES
  pub attribute : ℕ
  pub least : IsFirstFrom (uncovered_attributes (length names) tables.schemes) 0 attribute
  pub is : e ≡ plan.NotCovered attribute

-- a plan text over declared names is refused so
abbrev pub RefusesPlan : Naming → List (List ℕ) → List ℕ → PlanRefusal → Type 0
RefusesPlan naming names text e =
    RefusesTableLines naming names 1 [] (line_texts (without_mark text)) e
    ⊎ LeavesOut naming names (line_texts (without_mark text)) e

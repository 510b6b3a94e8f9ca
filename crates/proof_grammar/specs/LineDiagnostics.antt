-- What is wrong with a line by its grammar, and how the grammar refuses the line, whatever words name its
-- rules: for `Refusals`.
use Rattle.std.specs.Prelude.{◌≡◌, ◌<◌, ◌⊎◌, ℕ, suc, Bool, true, false, List, [], ◌∷◌, ◌++◌, length, take, map}
use Rattle.std.specs.Prelude.{Option, Some, None, option_map, slice_get}
use Rattle.schema_model.specs.declared.naming.Naming.{Naming}
use Rattle.lexer.specs.Modes as mode
use Rattle.lexer.specs.declared.token.LexError.{LexError}
use Rattle.lexer.specs.declared.token.TokenKind.{TokenKind}
use Rattle.lexer.specs.declared.token.TokenKind.TheVariants as token
use Rattle.lexer.specs.Tokens.{Mark, lex}
use Rattle.schema_grammar.specs.declared.format.Format.TheVariants as format
use Rattle.schema_grammar.specs.declared.refusal.SchemaRefusal.{SchemaRefusal}
use Rattle.schema_grammar.specs.declared.refusal.What.{What}
use Rattle.schema_grammar.specs.declared.refusal.What.TheVariants as what
use Rattle.schema_grammar.specs.DiagnosticKinds.{DiagnosticKind, expected, diagnostic_of_flaw}
use Rattle.schema_grammar.specs.Diagnostics.{DiagnosesOfWord, IsFirst, span_at}
use Rattle.proof_grammar.specs.declared.rule_name.RuleName.{RuleName}
use Rattle.proof_grammar.specs.declared.rule_name.RuleName.TheVariants as rule
use Rattle.proof_grammar.specs.Lines.{Line}
use Rattle.proof_grammar.specs.Meanings.{IsCertificateLine}
use Rattle.proof_grammar.specs.Tokens.{is_with, rule_word}

-- ---- the forms of tokens
-- what follows the name of a rule: nothing, one number, two, or a number with a set or with two
pub data RuleForm : Type 0 where
  with_none : RuleForm
  with_one : RuleForm
  with_two : RuleForm
  with_set : RuleForm
  with_sets : RuleForm

-- a token but for the value of a number, the arrow, the letters of a quoted name or a word that the grammar
-- does not have, and which of the rules of a form is named
pub data TokenForm : Type 0 where
  a_number : TokenForm
  a_colon : TokenForm
  an_arrow : TokenForm
  an_empty : TokenForm
  a_with : TokenForm
  a_rule : RuleForm → TokenForm
  a_word : TokenForm

-- the names that a line may use: those of attributes, and which words name rules of which form
pub record Names : Type 0 where
  pub attributes : List (List ℕ)
  pub rules : List ℕ → Option RuleForm

-- a word that is the name of a rule, or else may be `with`
abbrev pub word_form : Option RuleForm → Bool → TokenForm
word_form (Some r) with = a_rule r
word_form None true = a_with
word_form None false = a_word

abbrev pub token_form : Names → TokenKind → List ℕ → TokenForm
token_form names token.Identifier word = word_form (names.rules word) (is_with token.Identifier word)
token_form names token.Quoted word = a_word
token_form names (token.Number n) word = a_number
token_form names token.Colon word = a_colon
token_form names token.Arrow word = an_arrow
token_form names token.DoubleArrow word = an_arrow
token_form names token.Empty word = an_empty

abbrev pub token_forms : Names → List Mark → List TokenForm
token_forms names ms = map (λ m. token_form names m.kind m.word) ms

-- the names of the ten rules, beside these of attributes
abbrev pub rule_form : RuleName → RuleForm
rule_form rule.Given = with_one
rule_form rule.Reflexivity = with_none
rule_form rule.Augmentation = with_set
rule_form rule.Transitivity = with_two
rule_form rule.Complementation = with_one
rule_form rule.MReflexivity = with_none
rule_form rule.MAugmentation = with_sets
rule_form rule.MTransitivity = with_two
rule_form rule.Replication = with_one
rule_form rule.Coalescence = with_two

abbrev pub certificate_names : List (List ℕ) → Names
certificate_names names = record { attributes = names; rules = λ word. option_map rule_form (rule_word word) }

-- tokens of these forms are a line of a certificate over some names; the ten have all forms that rules have
pub record AreLine (fs : List TokenForm) : Type 0 where
  pub names : List (List ℕ)
  pub marks : List Mark
  pub line : Line
  pub same_forms : token_forms (certificate_names names) marks ≡ fs
  pub is_line : IsCertificateLine names marks line

-- tokens of these forms begin a line
pub record BeginLine (fs : List TokenForm) : Type 0 where
  pub rest : List TokenForm
  pub line : AreLine (fs ++ rest)

-- ---- what is wrong
-- after tokens of these forms any word can follow: it stands in a side
abbrev pub TakesNames : List TokenForm → Type 0
TakesNames fs = BeginLine (fs ++ a_word ∷ [])

-- the grammar can't go on at the token, or the line's end, before which so many tokens stand
pub record CannotGoOn (fs : List TokenForm) (stop : Option LexError) (position : ℕ) : Type 0 where
  pub before : BeginLine (take position fs)
  pub here : ((position < length fs) × (BeginLine (take (suc position) fs) → ⊥))
      ⊎ ((position ≡ length fs) × (stop ≡ None) × (AreLine fs → ⊥))

-- a word of a side is reserved, or no name is it
abbrev pub SideWordDiagnostic : Names → List Mark → ℕ → DiagnosticKind → Type 0
SideWordDiagnostic names ms position why =
    (m : Mark) × (slice_get ms position ≡ Some m) × TakesNames (take position (token_forms names ms))
    × DiagnosesOfWord format.Plain names.attributes m why

-- what is wrong with tokens at a position, before which so many of them stand
abbrev pub TokensDiagnostic : Names → List Mark → Option LexError → ℕ → DiagnosticKind → Type 0
TokensDiagnostic names ms stop position why =
    (SideWordDiagnostic names ms position why ⊎ ((why ≡ expected) × CannotGoOn (token_forms names ms) stop position))
    ⊎ ((s : LexError) × (stop ≡ Some s) × (position ≡ length ms) × (why ≡ diagnostic_of_flaw s.flaw))

-- what is wanted after tokens of these forms: a side where `()` can follow, the line's end where they are a
-- line, and any other token where it can follow; a word of the grammar, though, where no other word can
abbrev pub FormsWant : List TokenForm → What → Type 0
FormsWant fs what.Number = BeginLine (fs ++ a_number ∷ [])
FormsWant fs what.Colon = BeginLine (fs ++ a_colon ∷ [])
FormsWant fs what.Side = BeginLine (fs ++ an_empty ∷ [])
FormsWant fs what.Arrow = BeginLine (fs ++ an_arrow ∷ [])
FormsWant fs what.With = BeginLine (fs ++ a_with ∷ []) × (TakesNames fs → ⊥)
FormsWant fs what.Rule = BeginLine (fs ++ a_rule with_none ∷ []) × (TakesNames fs → ⊥)
FormsWant fs what.LineEnd = AreLine fs
FormsWant fs _ = ⊥

-- ---- the refusal
-- what is wanted at a position
abbrev pub TokensWant : Names → List Mark → ℕ → What → Type 0
TokensWant names ms position = FormsWant (take position (token_forms names ms))

-- a line of tokens is refused by its first diagnostic
abbrev pub RefusesTokens : Names → ℕ → List Mark → Option LexError → SchemaRefusal → Type 0
RefusesTokens names line ms stop e =
    IsFirst (TokensDiagnostic names ms stop) (TokensWant names ms) (span_at line 1 ms stop) e

-- the line of this number of a certificate's text is refused so
abbrev pub RefusesCertificateLine : Naming → List (List ℕ) → ℕ → List ℕ → SchemaRefusal → Type 0
RefusesCertificateLine naming names line text e =
    let l = lex (mode.numbered naming) text in RefusesTokens (certificate_names names) line l.marks l.stop e

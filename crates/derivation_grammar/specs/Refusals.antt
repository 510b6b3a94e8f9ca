-- Why a derivation is refused, and at which line of the text: for `read_derivation` and
-- `check derivation`. What the rules of its lines give is no ground.
use Rattle.std.specs.Prelude.{◌≡◌, ◌⊎◌, ◌≤◌, ℕ, ◌+◌, List, [], All, length}
use Rattle.schema_model.specs.Schemas.{Schema}
use Rattle.schema_model.specs.Schemas.{names_of, naming_of}
use Rattle.derivation.specs.declared.measures.TheConstants.{MOST_NODES}
use Rattle.schema_model.specs.declared.naming.Naming.{Naming}
use Rattle.lexer.specs.Lines.{line_texts, without_mark}
use Rattle.schema_grammar.specs.declared.refusal.SchemaRefusal.{SchemaRefusal}
use Rattle.proof_grammar.specs.declared.refusal.ProofRefusal.{ProofRefusal}
use Rattle.proof_grammar.specs.Diagnostics.{Diagnostic, LineDiagnostic, bad_line, wrong_number, no_such_line}
use Rattle.proof_grammar.specs.Diagnostics.{too_many_lines, empty_proof, line_diagnostic_of}
use Rattle.proof_grammar.specs.Meanings.{certificate_lines_of, certificate_lines}
use Rattle.proof_grammar.specs.Refusals.{StandsAt}
use Rattle.proof_grammar.specs.Wrongs.{rank}
use Rattle.derivation_grammar.specs.LineDiagnostics.{RefusesDerivationLine}
use Rattle.derivation_grammar.specs.Lines.{DerivationLine}
use Rattle.derivation_grammar.specs.Meanings.{MeansDerivationLine, MeanDerivationLines, premises_of, IsEarlier}
use Rattle.derivation_grammar.specs.Meanings.{AreInTurn}

-- ---- at a line
-- what is wrong with a line after so many others
abbrev pub Wrong : ℕ → DerivationLine → Diagnostic → Type 0
Wrong count l wrong_number = l.number ≡ count + 1 → ⊥
Wrong count l no_such_line = All (IsEarlier count) (premises_of l.body) → ⊥
Wrong count l too_many_lines = MOST_NODES ≤ count
Wrong count l _ = ⊥

-- what is wrong with a line, and comes first of all that is, in the order of certificates
pub record IsFirstWrong (count : ℕ) (l : DerivationLine) (c : Diagnostic) : Type 0 where
  pub wrong : Wrong count l c
  pub first : (other : Diagnostic) → Wrong count l other → rank c ≤ rank other

-- the line breaks the grammar: it is refused by its first diagnostic
pub record IsBadLine (naming : Naming) (names : List (List ℕ)) (here : List ℕ) (at : ℕ) (c : Diagnostic)
    : Type 0 where
  pub refusal : SchemaRefusal
  pub grammar : RefusesDerivationLine naming names at here refusal
  pub is : c ≡ bad_line refusal

-- or it means a line, with which something is wrong
pub record IsWrongLine (s : Schema) (lines : List DerivationLine) (here : List ℕ) (c : Diagnostic) : Type 0 where
  pub line : DerivationLine
  pub means : MeansDerivationLine (naming_of s) (names_of s) here line
  pub wrong : IsFirstWrong (length lines) line c

-- lines stand in their turn, and within the limit
pub record AreRead (lines : List DerivationLine) : Type 0 where
  pub in_turn : AreInTurn 0 lines
  pub lines_fit : length lines ≤ MOST_NODES

-- the lines before are read, and this one is refused
pub record IsRefusedAt (s : Schema) (text : List ℕ) (e : LineDiagnostic) : Type 0 where
  pub before : List (List ℕ)
  pub here : List ℕ
  pub stands : StandsAt (naming_of s) text before here e.line
  pub lines : List DerivationLine
  pub mean : MeanDerivationLines (naming_of s) (names_of s) (certificate_lines_of (naming_of s) before) lines
  pub read : AreRead lines
  pub why : IsBadLine (naming_of s) (names_of s) here e.line e.diagnostic
      ⊎ IsWrongLine s lines here e.diagnostic

-- ---- at the end
-- there is no line; this is refused at the last line of the text
pub record IsEmpty (naming : Naming) (text : List ℕ) (e : LineDiagnostic) : Type 0 where
  pub none : certificate_lines naming text ≡ []
  pub at : e.line ≡ length (line_texts (without_mark text))
  pub is : e.diagnostic ≡ empty_proof

-- a derivation is refused so
abbrev pub IsRefusedDerivation : Schema → List ℕ → LineDiagnostic → Type 0
IsRefusedDerivation s text e = IsRefusedAt s text e ⊎ IsEmpty (naming_of s) text e

-- the same of a refusal
abbrev pub RefusesDerivation : Schema → List ℕ → ProofRefusal → Type 0
RefusesDerivation s text e = IsRefusedDerivation s text (line_diagnostic_of e)

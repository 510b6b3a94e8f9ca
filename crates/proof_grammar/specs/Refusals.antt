-- Why a certificate is refused, and at which line of the text: for `read_proof` and the commands
-- that read one (`desk_inputs/Inputs`).
use Rattle.std.specs.Prelude.{List, [], length, ℕ, ◌++◌, ◌+◌, ◌<◌, ◌∷◌, ◌≡◌, ◌⊎◌}
use Rattle.schema_model.specs.Schemas.{Schema}
use Rattle.schema_model.specs.Schemas.{names_of, naming_of}
use Rattle.derivation.specs.Trees.{Tree}
use Rattle.schema_model.specs.declared.naming.Naming.{Naming}
use Rattle.lexer.specs.Lines.{line_texts, without_mark}
use Rattle.schema_grammar.specs.declared.refusal.SchemaRefusal.{SchemaRefusal}
use Rattle.proof_grammar.specs.declared.refusal.ProofRefusal.{ProofRefusal}
use Rattle.proof_grammar.specs.Diagnostics.{Diagnostic, LineDiagnostic, bad_line, never_used, empty_proof}
use Rattle.proof_grammar.specs.Diagnostics.{line_diagnostic_of}
use Rattle.proof_grammar.specs.LineDiagnostics.{RefusesCertificateLine}
use Rattle.proof_grammar.specs.Lines.{Line}
use Rattle.proof_grammar.specs.Meanings.{certificate_lines_of, certificate_lines, MeansLine, MeanLines}
use Rattle.proof_grammar.specs.Spelling.{uses}
use Rattle.proof_grammar.specs.Wrongs.{AreRead, IsFirstWrong}

-- a certificate line stands in this line of a text, after those of the lines before
pub record StandsAt (naming : Naming) (text : List ℕ) (before : List (List ℕ)) (here : List ℕ) (at : ℕ) : Type 0 where
  pub after : List (List ℕ)
  pub cut : line_texts (without_mark text) ≡ before ++ here ∷ after
  pub number : at ≡ length before + 1
  pub counts : certificate_lines_of naming (before ++ here ∷ [])
      ≡ certificate_lines_of naming before ++ here ∷ []

-- ---- at a line
-- the line breaks the grammar: it is refused by its first diagnostic
pub record IsBadLine (naming : Naming) (names : List (List ℕ)) (here : List ℕ) (at : ℕ) (c : Diagnostic)
    : Type 0 where
  pub refusal : SchemaRefusal
  pub grammar : RefusesCertificateLine naming names at here refusal
  pub is : c ≡ bad_line refusal

-- or it means a line, with which something is wrong
pub record IsWrongLine (s : Schema) (lines : List Line) (trees : List Tree) (here : List ℕ)
    (c : Diagnostic) : Type 0 where
  pub line : Line
  pub means : MeansLine (naming_of s) (names_of s) here line
  pub wrong : IsFirstWrong s lines trees line c

-- the lines before are read, and this one is refused
pub record IsRefusedAt (s : Schema) (text : List ℕ) (e : LineDiagnostic) : Type 0 where
  pub before : List (List ℕ)
  pub here : List ℕ
  pub stands : StandsAt (naming_of s) text before here e.line
  pub lines : List Line
  pub trees : List Tree
  pub mean : MeanLines (naming_of s) (names_of s) (certificate_lines_of (naming_of s) before) lines
  pub read : AreRead s lines trees
  pub why : IsBadLine (naming_of s) (names_of s) here e.line e.diagnostic
      ⊎ IsWrongLine s lines trees here e.diagnostic

-- ---- at the end
-- there is no line; this is refused at the last line of the text
pub record IsEmptyProof (text : List ℕ) (lines : List Line) (e : LineDiagnostic) : Type 0 where
  pub none : lines ≡ []
  pub at : e.line ≡ length (line_texts (without_mark text))
  pub is : e.diagnostic ≡ empty_proof

-- the first line but the last that no line uses; it is refused at its line of the text
pub record IsNeverUsed (naming : Naming) (text : List ℕ) (lines : List Line) (e : LineDiagnostic) : Type 0 where
  pub number : ℕ
  pub not_empty : 0 < number
  pub not_last : number < length lines
  pub unused : uses number lines ≡ 0
  pub first : (n : ℕ) → 0 < n → n < number → uses n lines ≡ 1
  pub before : List (List ℕ)
  pub here : List ℕ
  pub stands : StandsAt naming text before here e.line
  pub is_number : number ≡ length (certificate_lines_of naming before) + 1
  pub is : e.diagnostic ≡ never_used

-- all lines are read, and they are not the nodes of one tree
pub record IsUnfinished (s : Schema) (text : List ℕ) (e : LineDiagnostic) : Type 0 where
  pub lines : List Line
  pub trees : List Tree
  pub mean : MeanLines (naming_of s) (names_of s) (certificate_lines (naming_of s) text) lines
  pub read : AreRead s lines trees
  pub why : IsEmptyProof text lines e ⊎ IsNeverUsed (naming_of s) text lines e

-- a certificate is refused so
abbrev pub IsRefusedCertificate : Schema → List ℕ → LineDiagnostic → Type 0
IsRefusedCertificate s text e = IsRefusedAt s text e ⊎ IsUnfinished s text e

-- the same of a refusal
abbrev pub RefusesProof : Schema → List ℕ → ProofRefusal → Type 0
RefusesProof s text e = IsRefusedCertificate s text (line_diagnostic_of e)

-- The laws that tie the reading of a derivation to what it derives, and what that comes to: for the
-- functions of `laws.rt`. `Desk` does not cite it.
use Rattle.std.specs.Prelude.{◌≡◌, ◌⊎◌, ◌↔◌, ℕ, List, [], All, Ok, Err}
use Rattle.schema_model.specs.Schemas.{Schema, theory_in}
use Rattle.dep_model.specs.Dependencies.{Dependency}
use Rattle.schema_model.specs.Schemas.{ImpliedBy}
use Rattle.derivation.specs.Conclusions.{Proves}
use Rattle.derivation.specs.Trees.{Tree}
use Rattle.schema_model.specs.declared.naming.Naming.{Naming}
use Rattle.lexer.specs.Modes as mode
use Rattle.lexer.specs.Tokens.{lex}
use Rattle.schema_grammar.specs.declared.refusal.SchemaRefusal.{SchemaRefusal}
use Rattle.schema_grammar.specs.Rests.{rest_from}
use Rattle.proof_grammar.specs.Diagnostics.{LineDiagnostic}
use Rattle.proof_grammar.specs.Spelling.{SpellsWithin}
use Rattle.derivation_grammar.specs.Derivations.{AreDerived, LastStates, Derives}
use Rattle.derivation_grammar.specs.LineDiagnostics.{RefusesDerivationLine}
use Rattle.derivation_grammar.specs.Lines.{DerivationLine, derivation_line}
use Rattle.derivation_grammar.specs.Meanings.{MeansDerivationLine, MeansDerivation}
use Rattle.derivation_grammar.specs.Refusals.{IsRefusedDerivation}
use Rattle.derivation_grammar.specs.Texts.{read_derivation}

-- ---- reading
-- a line is read exactly as what it means
abbrev pub LineMeaning : Type 0
LineMeaning =
    (naming : Naming) (names : List (List ℕ)) (number : ℕ) (text : List ℕ) (l : DerivationLine)
    → (derivation_line names (rest_from number 1 (lex (mode.numbered naming) text)) ≡ Ok l)
    ↔ MeansDerivationLine naming names text l

-- the reading of a line refuses it exactly as the grammar does
abbrev pub LineRefusal : Type 0
LineRefusal =
    (naming : Naming) (names : List (List ℕ)) (number : ℕ) (text : List ℕ) (e : SchemaRefusal)
    → (derivation_line names (rest_from number 1 (lex (mode.numbered naming) text)) ≡ Err e)
    ↔ RefusesDerivationLine naming names number text e

-- a text is read exactly as the lines of which it is a derivation
abbrev pub DerivationReading : Type 0
DerivationReading = (s : Schema) (text : List ℕ) (lines : List DerivationLine)
    → (read_derivation s text ≡ Ok lines) ↔ MeansDerivation s text lines

-- the reading of a text refuses it exactly as the definition does
abbrev pub DerivationRefusal : Type 0
DerivationRefusal = (s : Schema) (text : List ℕ) (e : LineDiagnostic)
    → (read_derivation s text ≡ Err e) ↔ IsRefusedDerivation s text e

-- a text is a derivation or is refused
abbrev pub ReadOrRefused : Type 0
ReadOrRefused = (s : Schema) (text : List ℕ)
    → ((lines : List DerivationLine) × MeansDerivation s text lines)
    ⊎ ((e : LineDiagnostic) × IsRefusedDerivation s text e)

-- it is a derivation of one list of lines at most, is refused in one way at most, and never both
abbrev pub OneOutcome : Type 0
OneOutcome = (s : Schema) (text : List ℕ)
    → ((ks ls : List DerivationLine) → MeansDerivation s text ks → MeansDerivation s text ls → ks ≡ ls)
    × ((c e : LineDiagnostic) → IsRefusedDerivation s text c → IsRefusedDerivation s text e → c ≡ e)
    × ((ls : List DerivationLine) (e : LineDiagnostic) → MeansDerivation s text ls
    → IsRefusedDerivation s text e → ⊥)

-- a text derives something exactly where it is a derivation of lines each of which is derived, and of which
-- the last states that
abbrev pub DerivesByLines : Type 0
DerivesByLines = (s : Schema) (text : List ℕ) (d : Dependency)
    → Derives s text d
    ↔ ((lines : List DerivationLine) × MeansDerivation s text lines × AreDerived s [] lines × LastStates lines d)

-- ---- soundness
-- what each line of derived lines states is implied
abbrev pub EachLineIsImplied : Type 0
EachLineIsImplied = (s : Schema) (lines : List DerivationLine) → AreDerived s [] lines
    → All (λ l. ImpliedBy s l.stated) lines

-- what a text derives is implied
abbrev pub DerivedIsImplied : Type 0
DerivedIsImplied = (s : Schema) (text : List ℕ) (d : Dependency) → Derives s text d → ImpliedBy s d

-- a certificate is a derivation of what it proves
abbrev pub CertificateIsDerivation : Type 0
CertificateIsDerivation = (s : Schema) (text : List ℕ) (t : Tree) (d : Dependency)
    → SpellsWithin s text t → Proves (theory_in s) t d → Derives s text d

-- The laws that tie the reading of a certificate to what it spells, and what printed certificates
-- spell: for the functions of `laws.rt`. `Desk` does not cite it.
use Rattle.std.specs.Prelude.{◌≡◌, ◌≤◌, ◌↔◌, ℕ, List, ◌++◌, length, map, All, codes, Ok, Err}
use Rattle.schema_model.specs.Schemas.{Schema, theory_in}
use Rattle.dep_model.specs.Dependencies.{Dependency}
use Rattle.schema_model.specs.Schemas.{names_of, naming_of}
use Rattle.derivation.specs.declared.deriv.Deriv.{Deriv}
use Rattle.derivation.specs.declared.measures.TheConstants.{MOST_NODES, MOST_LEVELS}
use Rattle.derivation.specs.Conclusions.{Proves}
use Rattle.derivation.specs.Derivs.{tree_of}
use Rattle.derivation.specs.Trees.{Tree, nodes, depth}
use Rattle.schema_model.specs.declared.naming.Naming.{Naming}
use Rattle.lexer.specs.Modes as mode
use Rattle.lexer.specs.Tokens.{lex}
use Rattle.schema_grammar.specs.declared.format.Format.TheVariants as format
use Rattle.schema_grammar.specs.declared.refusal.SchemaRefusal.{SchemaRefusal}
use Rattle.schema_printer.specs.Spelling.{spelling}
use Rattle.schema_grammar.specs.Rests.{rest_from}
use Rattle.proof_grammar.specs.Diagnostics.{LineDiagnostic}
use Rattle.proof_grammar.specs.LineDiagnostics.{RefusesCertificateLine}
use Rattle.proof_grammar.specs.Lines.{Line, certificate_line}
use Rattle.proof_grammar.specs.Meanings.{MeansLine}
use Rattle.schema_grammar.specs.Printed.{IsReadBack, AreReadBack}
use Rattle.proof_grammar.specs.Printable.{IsPrintableLine}
use Rattle.proof_grammar.specs.Printing.{certificate_line_text, node_lines_after, canonical_certificate}
use Rattle.proof_grammar.specs.Refusals.{IsRefusedCertificate}
use Rattle.proof_grammar.specs.Spelling.{AreNodesOf, Spells, SpellsWithin}
use Rattle.proof_grammar.specs.Texts.{read_proof}

-- ---- reading
-- a line is read exactly as what it means
abbrev pub LineMeaning : Type 0
LineMeaning =
    (naming : Naming) (names : List (List ℕ)) (number : ℕ) (text : List ℕ) (l : Line)
    → (certificate_line names (rest_from number 1 (lex (mode.numbered naming) text)) ≡ Ok l)
    ↔ MeansLine naming names text l

-- the reading of a line refuses it exactly as the grammar does
abbrev pub LineRefusal : Type 0
LineRefusal =
    (naming : Naming) (names : List (List ℕ)) (number : ℕ) (text : List ℕ) (e : SchemaRefusal)
    → (certificate_line names (rest_from number 1 (lex (mode.numbered naming) text)) ≡ Err e)
    ↔ RefusesCertificateLine naming names number text e

-- a certificate is read exactly as the tree that it spells within the limits
abbrev pub SpelledIsRead : Type 0
SpelledIsRead = (s : Schema) (text : List ℕ) (t : Tree) → (read_proof s text ≡ Ok t) ↔ SpellsWithin s text t

-- it spells one tree at most
abbrev pub OneTree : Type 0
OneTree = (s : Schema) (text : List ℕ) (t u : Tree) → Spells s text t → Spells s text u → t ≡ u

-- its tree has a node for each line
abbrev pub LinesAreNodes : Type 0
LinesAreNodes = (s : Schema) (text : List ℕ) (t : Tree) (w : Spells s text t) → length w.lines ≡ nodes t

-- the reading of a certificate refuses it exactly as the definition does
abbrev pub CertificateRefusal : Type 0
CertificateRefusal = (s : Schema) (text : List ℕ) (e : LineDiagnostic)
    → (read_proof s text ≡ Err e) ↔ IsRefusedCertificate s text e

-- ---- printing
-- a printed line, without its line feed, means the line
abbrev pub PrintedLineMeans : Type 0
PrintedLineMeans =
    (naming : Naming) (names : List (List ℕ)) (l : Line) → AreReadBack format.Plain naming names
    → IsPrintableLine names l
    → (text : List ℕ) × (certificate_line_text (map (spelling naming) names) l ≡ text ++ codes "\n")
    × MeansLine naming names text l

-- the lines that are printed of a tree are its nodes
abbrev pub PrintedNodes : Type 0
PrintedNodes =
    (s : Schema) (p : Deriv) (d : Dependency) → Proves (theory_in s) (tree_of p) d
    → AreNodesOf s (node_lines_after s 0 (tree_of p)) (tree_of p)
    × (length (node_lines_after s 0 (tree_of p)) ≡ nodes (tree_of p))

-- what is printed of a derivation after these bytes spells its tree
abbrev pub PrintedSpells : List ℕ → Type 0
PrintedSpells before =
    (s : Schema) (p : Deriv) (d : Dependency) → All (IsReadBack format.Plain (naming_of s)) (names_of s)
    → Proves (theory_in s) (tree_of p) d → nodes (tree_of p) ≤ MOST_NODES
    → Spells s (before ++ canonical_certificate s (tree_of p)) (tree_of p)

-- and is read as it
abbrev pub PrintedIsRead : List ℕ → Type 0
PrintedIsRead before =
    (s : Schema) (p : Deriv) (d : Dependency) → All (IsReadBack format.Plain (naming_of s)) (names_of s)
    → Proves (theory_in s) (tree_of p) d → nodes (tree_of p) ≤ MOST_NODES → depth (tree_of p) ≤ MOST_LEVELS
    → read_proof s (before ++ canonical_certificate s (tree_of p)) ≡ Ok (tree_of p)

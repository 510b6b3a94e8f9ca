-- What is printed of certificates and derivations: for `check proof`, `check derivation` and the
-- refusals of both.
use Rattle.std.specs.Prelude.{List, codes, ℕ, ◌++◌}
use Rattle.std.specs.Fmt.{decimal}
use Rattle.proof_grammar.specs.Diagnostics.{LineDiagnostic}
use Rattle.proof_grammar.specs.RefusalTexts.{diagnostic_number, diagnostic_text, position_text}
use Rattle.desk_texts.specs.Texts.{line}

-- a refusal after these words
abbrev pub refused_line_text : List ℕ → List (List ℕ) → List ℕ → LineDiagnostic → List ℕ
refused_line_text words names file refusal =
    line (words ++ decimal (diagnostic_number refusal.diagnostic) ++ codes " at "
    ++ file ++ codes ":"
    ++ position_text refusal.line refusal.diagnostic ++ codes " " ++ diagnostic_text names refusal.diagnostic)

-- a refusal of a certificate
abbrev pub proof_refusal_text : List (List ℕ) → List ℕ → LineDiagnostic → List ℕ
proof_refusal_text names file refusal = refused_line_text (codes "refused: proof ") names file refusal

-- a refusal of a derivation
abbrev pub derivation_refusal_text : List (List ℕ) → List ℕ → LineDiagnostic → List ℕ
derivation_refusal_text names file refusal = refused_line_text (codes "refused: derivation ") names file refusal

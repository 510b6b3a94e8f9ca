-- The numbers and the words of the diagnostics of certificates: for the line that refuses a certificate.
use Rattle.std.specs.Prelude.{List, codes, ℕ, ◌++◌}
use Rattle.std.specs.Fmt.{decimal}
use Rattle.derivation.specs.FaultTexts.{fault_number, fault_text}
use Rattle.schema_grammar.specs.RefusalTexts.{kind_text, span_text}
use Rattle.schema_printer.specs.Printing.{dependency_text}
use Rattle.proof_grammar.specs.Diagnostics.{Diagnostic, bad_line, wrong_number, no_such_line, used_twice, never_used}
use Rattle.proof_grammar.specs.Diagnostics.{too_many_lines, too_deep, unsound, states_other, empty_proof}

-- the number of a diagnostic
abbrev pub diagnostic_number : Diagnostic → ℕ
diagnostic_number (bad_line refusal) = 1
diagnostic_number wrong_number = 2
diagnostic_number no_such_line = 3
diagnostic_number used_twice = 4
diagnostic_number never_used = 5
diagnostic_number too_many_lines = 6
diagnostic_number too_deep = 7
diagnostic_number (unsound why) = 8
diagnostic_number (states_other stated concluded) = 9
diagnostic_number empty_proof = 10

-- a diagnostic in words, over the names of the attributes
abbrev pub diagnostic_text : List (List ℕ) → Diagnostic → List ℕ
diagnostic_text names (bad_line refusal) = kind_text refusal.kind
diagnostic_text names wrong_number = codes "wrong number"
diagnostic_text names no_such_line = codes "no such line"
diagnostic_text names used_twice = codes "line used twice"
diagnostic_text names never_used = codes "line never used"
diagnostic_text names too_many_lines = codes "too many lines"
diagnostic_text names too_deep = codes "too deep"
diagnostic_text names (unsound why) =
    codes "rule does not apply: " ++ decimal (fault_number why.kind) ++ codes " " ++ fault_text why.kind
diagnostic_text names (states_other stated concluded) =
    codes "line states " ++ dependency_text names stated ++ codes " but concludes "
    ++ dependency_text names concluded
diagnostic_text names empty_proof = codes "empty proof"

-- the line, and where the line breaks the grammar its column too
abbrev pub position_text : ℕ → Diagnostic → List ℕ
position_text at (bad_line refusal) = span_text refusal.span
position_text at _ = decimal at

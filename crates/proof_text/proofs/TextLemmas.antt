-- Reading a certificate line by line.
use Rattle.std.proofs.Common.{◌≡◌, ◌≤◌, ◌+◌, ℕ, Bool, List, length, drop, Option, Some, None, arith, length-drop}
use Rattle.std.proofs.lemmas.Bool.{cond_both}
use denote.Ref.{Bor}
use Rattle.schema_model.specs.Schemas.{Schema}
use Rattle.lexer.specs.Lines.{line_texts, without_mark, CutsLine}
use Rattle.proof_text.specs.declared.text.TheConstants.{MOST_PROOF_BYTES}
use Rattle.proof_grammar.specs.CheckerStates.{CheckerStateValue}
use Rattle.proof_grammar.specs.ValidStates.{IsCheckerState}
use Rattle.proof_grammar.specs.Texts.{read_certificate_lines, read_proof}

-- to read the lines that are left is to read the whole
pub record Reads (s : Schema) (text : List ℕ) (fresh : Bool) (number : ℕ) (state : CheckerStateValue) (rest : List ℕ) : Type 0 where
  pub same : read_proof s text ≡ read_certificate_lines s fresh number state (line_texts rest)
  pub room : number + length rest ≤ MOST_PROOF_BYTES + 1
  pub checker_state : IsCheckerState s state

-- a text without its byte-order mark is no longer
pub unmarked_within : (text : List ℕ) → length (without_mark text) ≤ length text
unmarked_within text =
    cond_both _ (drop 3 text) text (λ t. length t ≤ length text) (λ marked. omega (arith, length-drop 3 text))
    (λ bare. omega arith)

pub line_within : (text line : List ℕ) (after : Option (Bor (List ℕ))) → CutsLine text line after → length line ≤ length text
line_within text line None cut = cut.within
line_within text line (Some after) cut = cut.within

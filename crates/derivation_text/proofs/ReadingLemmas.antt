-- Reading a derivation line by line.
use Rattle.std.proofs.Common.{◌≡◌, ◌≤◌, ◌+◌, ℕ, Bool, List, length}
use Rattle.schema_model.specs.Schemas.{Schema}
use Rattle.lexer.specs.Lines.{line_texts}
use Rattle.proof_text.specs.declared.text.TheConstants.{MOST_PROOF_BYTES}
use Rattle.derivation_grammar.specs.Lines.{DerivationLine}
use Rattle.derivation_grammar.specs.Texts.{read_lines, read_derivation}

-- to read the lines that are left is to read the whole
pub record Reads (s : Schema) (text : List ℕ) (fresh : Bool) (number : ℕ) (before : List DerivationLine) (rest : List ℕ) : Type 0 where
  pub same : read_derivation s text ≡ read_lines s fresh number before (line_texts rest)
  pub room : number + length rest ≤ MOST_PROOF_BYTES + 1

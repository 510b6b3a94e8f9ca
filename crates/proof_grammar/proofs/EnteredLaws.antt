-- A line that is entered is a node within the limits, and a line uses none but earlier lines.
use Rattle.std.proofs.Common.{◌≡◌, ◌<◌, ◌≤◌, ⊎_elim, ◌+◌, ℕ, List, [], ◌∷◌, ◌++◌, length, arith}
use Rattle.std.proofs.lemmas.Bool.{cases_lt}
use Rattle.schema_model.specs.Schemas.{Schema}
use Rattle.derivation.specs.declared.measures.TheConstants.{MOST_NODES, MOST_LEVELS}
use Rattle.derivation.specs.Trees.{Tree, depth}
use Rattle.proof_grammar.specs.CheckerStates.{CheckerStateValue}
use Rattle.proof_grammar.specs.Lines.{Body, Line}
use Rattle.proof_grammar.specs.Spelling.{IsTreeOf, IsNode, premises_of}
use Rattle.proof_grammar.proofs.SlotLemmas.{AreSlots, times}
use Rattle.proof_grammar.proofs.PreparedLaws.{tree_earlier}

-- the checker state after lines that are used so often
pub record Follows (s : Schema) (used : ℕ → ℕ) (ts : List Tree) (state : CheckerStateValue) : Type 0 where
  pub slots : AreSlots s used 0 ts state.unused
  pub fresh : (n : ℕ) → length ts ≤ n → used n ≡ 0

abbrev pub used_after : (ℕ → ℕ) → Line → ℕ → ℕ
used_after used l n = used n + times n (premises_of l.body)

-- a node within the limits, after which the checker state follows
pub record IsEntered (s : Schema) (used : ℕ → ℕ) (ts : List Tree) (l : Line) (next : CheckerStateValue) (t : Tree) : Type 0 where
  pub node : IsNode s ts l t
  pub lines_fit : length ts < MOST_NODES
  pub levels_fit : depth t ≤ MOST_LEVELS
  pub follows : Follows s (used_after used l) (ts ++ t ∷ []) next

-- a line uses none but earlier lines
pub premises_early : (ts : List Tree) (l : Line) (b : Body) (t : Tree) (n : ℕ) → IsTreeOf ts l b t → length ts < n
    → times n (premises_of b) ≡ 0
premises_early ts l b t n tree late =
    ⊎_elim (λ not_empty. let within = tree_earlier ts l b t tree n not_empty in absurd (omega (arith, late, within.1)))
    (λ none. omega (arith, none)) (cases_lt 0 (times n (premises_of b)))

-- What holds of the certificate lines that were read so far: for the reader of certificates,
-- proof_text. `Desk` does not cite it.
use Rattle.std.specs.Prelude.{◌≡◌, ◌≤◌, ◌+◌, ℕ, List, [], ◌∷◌, length, Option, Some, None}
use Rattle.schema_model.specs.Schemas.{Schema, theory_in}
use Rattle.derivation.specs.Trees.{nodes, depth}
use Rattle.derivation.specs.Conclusions.{Proves}
use Rattle.derivation.specs.declared.measures.TheConstants.{MOST_NODES, MOST_LEVELS}
use Rattle.proof_grammar.specs.CheckerStates.{Opened, CheckerStateValue}

-- an open line proves its conclusion, and has the levels of its tree, which are few enough
pub record ProvesItsConclusion (s : Schema) (o : Opened) : Type 0 where
  pub proves : Proves (theory_in s) o.tree o.conclusion
  pub levels : depth o.tree ≡ o.levels
  pub levels_fit : o.levels ≤ MOST_LEVELS

-- the same of a line that may have been used
abbrev pub IfOpen : Schema → Option Opened → Type 0
IfOpen s None = Unit {0}
IfOpen s (Some o) = ProvesItsConclusion s o

-- and of each of some lines
abbrev pub AllStand : Schema → List (Option Opened) → Type 0
AllStand s [] = Unit {0}
AllStand s (o ∷ os) = IfOpen s o × AllStand s os

-- how many nodes the tree of a line has; 0 where the line was used
abbrev pub open_nodes : Option Opened → ℕ
open_nodes None = 0
open_nodes (Some o) = nodes o.tree

-- how many the trees of some lines have together
abbrev pub all_nodes : List (Option Opened) → ℕ
all_nodes [] = 0
all_nodes (o ∷ os) = open_nodes o + all_nodes os

-- a checker state of lines that stand, in which each line's node stands once
pub record IsCheckerState (s : Schema) (state : CheckerStateValue) : Type 0 where
  pub stand : AllStand s state.unused
  pub count : all_nodes state.unused ≡ length state.unused
  pub lines_fit : length state.unused ≤ MOST_NODES

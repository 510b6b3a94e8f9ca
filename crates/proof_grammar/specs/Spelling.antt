-- What a certificate spells: its lines are the nodes of a tree. For `read_proof` and `check proof`
-- (`desk_inputs/Inputs`).
use Rattle.std.specs.Prelude.{◌≡◌, ◌<◌, ◌≤◌, ℕ, ◌+◌, List, [], ◌∷◌, ◌++◌, length, filter, nat_eq, slice_get, Some}
use Rattle.std.specs.List.{flat_map}
use Rattle.schema_model.specs.Schemas.{Schema, theory_in}
use Rattle.dep_model.specs.Dependencies.{left_of, right_of}
use Rattle.schema_model.specs.Schemas.{names_of, naming_of}
use Rattle.derivation.specs.declared.measures.TheConstants.{MOST_NODES, MOST_LEVELS}
use Rattle.derivation.specs.Trees.{Tree, depth, leaf, step, pair, given, reflexivity, mreflexivity, Step, Pair}
use Rattle.derivation.specs.Conclusions.{Proves}
use Rattle.proof_grammar.specs.Lines.{Body, by_given, by_reflexivity, by_mreflexivity, by_step, by_pair, Line}
use Rattle.proof_grammar.specs.Meanings.{certificate_lines, MeanLines}

-- ---- a line is a node
-- the tree of the line of this number, which is counted from 1
pub record IsTreeAt (trees : List Tree) (n : ℕ) (t : Tree) : Type 0 where
  pub before : ℕ
  pub number : n ≡ before + 1
  pub tree : slice_get trees before ≡ Some t

-- a dependency of the schema, which is counted from 1
pub record IsGivenTree (k : ℕ) (t : Tree) : Type 0 where
  pub before : ℕ
  pub number : k ≡ before + 1
  pub tree : t ≡ leaf (given before)

-- a rule over the tree of an earlier line
pub record IsStepTree (trees : List Tree) (rule : Step) (p : ℕ) (t : Tree) : Type 0 where
  pub premise : Tree
  pub earlier : IsTreeAt trees p premise
  pub tree : t ≡ step rule premise

-- or over those of two
pub record IsPairTree (trees : List Tree) (rule : Pair) (p q : ℕ) (t : Tree) : Type 0 where
  pub first : Tree
  pub second : Tree
  pub first_earlier : IsTreeAt trees p first
  pub second_earlier : IsTreeAt trees q second
  pub tree : t ≡ pair rule first second

-- the tree that a line's rule makes of the trees of the lines before it
abbrev pub IsTreeOf : List Tree → Line → Body → Tree → Type 0
IsTreeOf trees l (by_given k) t = IsGivenTree k t
IsTreeOf trees l by_reflexivity t = t ≡ leaf (reflexivity (left_of l.stated) (right_of l.stated))
IsTreeOf trees l by_mreflexivity t = t ≡ leaf (mreflexivity (left_of l.stated) (right_of l.stated))
IsTreeOf trees l (by_step rule p) t = IsStepTree trees rule p t
IsTreeOf trees l (by_pair rule p q) t = IsPairTree trees rule p q t

-- a line is numbered in its turn, and states what its tree concludes
pub record IsNode (s : Schema) (trees : List Tree) (l : Line) (t : Tree) : Type 0 where
  pub number : l.number ≡ length trees + 1
  pub tree : IsTreeOf trees l l.body t
  pub states : Proves (theory_in s) t l.stated

-- each line is a node, after lines of these trees
abbrev pub AreNodes : Schema → List Tree → List Line → List Tree → Type 0
AreNodes s before [] [] = Unit {0}
AreNodes s before (l ∷ ls) (t ∷ ts) = IsNode s before l t × AreNodes s (before ++ t ∷ []) ls ts
AreNodes s before _ _ = ⊥

-- ---- each line is used once
abbrev pub premises_of : Body → List ℕ
premises_of (by_given k) = []
premises_of by_reflexivity = []
premises_of by_mreflexivity = []
premises_of (by_step rule p) = p ∷ []
premises_of (by_pair rule p q) = p ∷ q ∷ []

-- how often lines use the line of this number
abbrev pub uses : ℕ → List Line → ℕ
uses n lines = length (filter (nat_eq n) (flat_map (λ l. premises_of l.body) lines))

-- the lines are the nodes of a tree, each but the last used once
pub record AreNodesOf (s : Schema) (lines : List Line) (t : Tree) : Type 0 where
  pub before : List Tree
  pub nodes : AreNodes s [] lines (before ++ t ∷ [])
  pub used : (n : ℕ) → 0 < n → n < length lines → uses n lines ≡ 1

-- the certificate lines of a text are the nodes of a tree
pub record Spells (s : Schema) (text : List ℕ) (t : Tree) : Type 0 where
  pub lines : List Line
  pub mean : MeanLines (naming_of s) (names_of s) (certificate_lines (naming_of s) text) lines
  pub nodes : AreNodesOf s lines t

-- the same within the limits of a certificate
pub record SpellsWithin (s : Schema) (text : List ℕ) (t : Tree) : Type 0 where
  pub spells : Spells s text t
  pub lines_fit : length spells.lines ≤ MOST_NODES
  pub levels_fit : depth t ≤ MOST_LEVELS

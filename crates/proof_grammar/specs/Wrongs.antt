-- What is wrong with a certificate line, after lines that are nodes: for `Refusals`.
use Rattle.std.specs.Prelude.{◌≡◌, ◌⊎◌, ◌<◌, ◌≤◌, ℕ, ◌+◌, List, [], ◌∷◌, ◌++◌, length, All, Err}
use Rattle.schema_model.specs.Schemas.{Schema, theory_in}
use Rattle.dep_model.specs.Dependencies.{Dependency, left_of, right_of}
use Rattle.derivation.specs.declared.fault.FaultKind.{FaultKind}
use Rattle.derivation.specs.declared.fault.FaultKind.TheVariants.{NoSuchGiven}
use Rattle.derivation.specs.declared.measures.TheConstants.{MOST_NODES, MOST_LEVELS}
use Rattle.derivation.specs.Trees.{Tree, depth, given, reflexivity, mreflexivity, Step, Pair}
use Rattle.derivation.specs.Table.{leaf_conclusion, step_conclusion, pair_conclusion}
use Rattle.derivation.specs.Conclusions.{Proves}
use Rattle.proof_grammar.specs.Diagnostics.{Diagnostic, bad_line, wrong_number, no_such_line, used_twice, never_used}
use Rattle.proof_grammar.specs.Diagnostics.{too_many_lines, too_deep, unsound, states_other, empty_proof}
use Rattle.proof_grammar.specs.Lines.{Body, by_given, by_reflexivity, by_mreflexivity, by_step, by_pair, Line}
use Rattle.proof_grammar.specs.Spelling.{IsTreeAt, IsTreeOf, AreNodes, uses}

-- lines that are nodes within the limits, none of them used twice
pub record AreRead (s : Schema) (lines : List Line) (trees : List Tree) : Type 0 where
  pub nodes : AreNodes s [] lines trees
  pub once : (n : ℕ) → 0 < n → uses n lines ≤ 1
  pub lines_fit : length lines ≤ MOST_NODES
  pub levels_fit : All (λ t. depth t ≤ MOST_LEVELS) trees

-- ---- premises
-- a premise is 0, or no line before has its number
pub record NamesNoLine (trees : List Tree) (l : Line) : Type 0 where
  pub premise : ℕ
  pub named : 0 < uses premise (l ∷ [])
  pub missing : (premise ≡ 0) ⊎ (length trees < premise)

-- an earlier line used a premise, or both premises are one
pub record UsesTwice (lines : List Line) (l : Line) : Type 0 where
  pub premise : ℕ
  pub named : 0 < uses premise (l ∷ [])
  pub twice : 1 < uses premise (lines ++ l ∷ [])

-- ---- the node
-- the rule table refuses a rule with one premise
pub record StepFault (s : Schema) (trees : List Tree) (rule : Step) (p : ℕ) (why : FaultKind) : Type 0 where
  pub premise : Tree
  pub conclusion : Dependency
  pub at : IsTreeAt trees p premise
  pub proves : Proves (theory_in s) premise conclusion
  pub refused : step_conclusion (theory_in s) rule conclusion ≡ Err why

-- or one with two
pub record PairFault (s : Schema) (trees : List Tree) (rule : Pair) (p q : ℕ) (why : FaultKind) : Type 0 where
  pub first : Tree
  pub second : Tree
  pub left : Dependency
  pub right : Dependency
  pub first_at : IsTreeAt trees p first
  pub second_at : IsTreeAt trees q second
  pub first_proves : Proves (theory_in s) first left
  pub second_proves : Proves (theory_in s) second right
  pub refused : pair_conclusion rule left right ≡ Err why

-- no dependency has number 0, and else the table refuses one that the schema does not have
abbrev pub GivenFault : Schema → ℕ → FaultKind → Type 0
GivenFault s k why = ((k ≡ 0) × (why ≡ NoSuchGiven))
    ⊎ ((i : ℕ) × (k ≡ i + 1) × (leaf_conclusion (theory_in s) (given i) ≡ Err why))

-- the rule table refuses the node of a line, and why
abbrev pub NodeFault : Schema → List Tree → Line → Body → FaultKind → Type 0
NodeFault s trees l (by_given k) why = GivenFault s k why
NodeFault s trees l by_reflexivity why =
    leaf_conclusion (theory_in s) (reflexivity (left_of l.stated) (right_of l.stated)) ≡ Err why
NodeFault s trees l by_mreflexivity why =
    leaf_conclusion (theory_in s) (mreflexivity (left_of l.stated) (right_of l.stated)) ≡ Err why
NodeFault s trees l (by_step rule p) why = StepFault s trees rule p why
NodeFault s trees l (by_pair rule p q) why = PairFault s trees rule p q why

-- the tree of the line has too many levels
pub record IsTooDeep (trees : List Tree) (l : Line) : Type 0 where
  pub tree : Tree
  pub is : IsTreeOf trees l l.body tree
  pub deep : MOST_LEVELS < depth tree

-- the tree of the line proves another dependency than the line states
pub record StatesOther (s : Schema) (trees : List Tree) (l : Line) (concluded : Dependency) : Type 0 where
  pub tree : Tree
  pub is : IsTreeOf trees l l.body tree
  pub proves : Proves (theory_in s) tree concluded
  pub other : l.stated ≡ concluded → ⊥

-- ---- what is wrong, and what comes first
-- a diagnostic about a line, after lines of these trees
abbrev pub Wrong : Schema → List Line → List Tree → Line → Diagnostic → Type 0
Wrong s lines trees l wrong_number = l.number ≡ length trees + 1 → ⊥
Wrong s lines trees l no_such_line = NamesNoLine trees l
Wrong s lines trees l used_twice = UsesTwice lines l
Wrong s lines trees l too_many_lines = MOST_NODES ≤ length trees
Wrong s lines trees l too_deep = IsTooDeep trees l
Wrong s lines trees l (unsound fault) = (fault.node ≡ l.number) × NodeFault s trees l l.body fault.kind
Wrong s lines trees l (states_other stated concluded) = (stated ≡ l.stated) × StatesOther s trees l concluded
Wrong s lines trees l (bad_line e) = ⊥
Wrong s lines trees l never_used = ⊥
Wrong s lines trees l empty_proof = ⊥

-- the order of the diagnostics about one line
abbrev pub rank : Diagnostic → ℕ
rank (bad_line e) = 1
rank wrong_number = 2
rank no_such_line = 3
rank used_twice = 4
rank too_many_lines = 5
rank too_deep = 6
rank (unsound fault) = 7
rank (states_other stated concluded) = 8
rank never_used = 9
rank empty_proof = 10

-- what is wrong with a line, and comes first of all that is
pub record IsFirstWrong (s : Schema) (lines : List Line) (trees : List Tree) (l : Line) (c : Diagnostic)
    : Type 0 where
  pub wrong : Wrong s lines trees l c
  pub first : (other : Diagnostic) → Wrong s lines trees l other → rank c ≤ rank other

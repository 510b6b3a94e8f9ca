-- What is wrong with a line is one thing of a kind, and what comes first among several.
use Rattle.std.proofs.Common.{◌≡◌, ◌<◌, ◌≤◌, ◌⊎◌, inl, inr, ◌+◌, ℕ, Bool, true, false, List, length, Result, Ok, Err, refl, sym, ◌∙◌, ap, subst, arith}
use Rattle.std.specs.Prelude.{nat_lt}
use Rattle.std.proofs.lemmas.Bool.Decides.{nat_tests}
use Rattle.schema_model.specs.Schemas.{Schema, theory_in}
use Rattle.dep_model.specs.Dependencies.{Dependency, left_of, right_of}
use Rattle.derivation.specs.declared.fault.FaultKind.{FaultKind}
use Rattle.derivation.specs.declared.fault.FaultKind.TheVariants.{NoSuchGiven}
use Rattle.derivation.specs.declared.measures.TheConstants.{MOST_NODES}
use Rattle.derivation.specs.Trees.{Tree, step, pair, given, reflexivity, mreflexivity}
use Rattle.derivation.specs.Table.{leaf_conclusion, step_conclusion, pair_conclusion}
use Rattle.derivation.specs.Conclusions.{Proves}
use Rattle.derivation.proofs.ConclusionLemmas.{Proves-one}
use Rattle.proof_grammar.proofs.OneTree.{same_tree, tree_of_line}
use Rattle.proof_grammar.specs.Diagnostics.{Diagnostic, bad_line, wrong_number, no_such_line, used_twice, never_used, too_many_lines, too_deep, unsound, states_other, empty_proof}
use Rattle.proof_grammar.specs.Lines.{Body, by_given, by_reflexivity, by_mreflexivity, by_step, by_pair, Line}
use Rattle.proof_grammar.specs.Spelling.{IsTreeAt, IsTreeOf}
use Rattle.proof_grammar.specs.Wrongs.{NamesNoLine, UsesTwice, NodeFault, IsTooDeep, Wrong, rank}

-- ---- what comes first
-- something is asked where a test holds
abbrev pub If : Bool → Type 0 → Type 0
If true A = A
If false A = Unit {0}

le_unless : (j k : ℕ) (A : Type 0) → If (nat_lt j k) A → (A → ⊥) → k ≤ j
le_unless j k A asked none = by_cases (nat_lt j k) refl asked
  where
    by_cases : (b : Bool) → nat_lt j k ≡ b → If b A → k ≤ j
    by_cases true e holds = absurd (none holds)
    by_cases false e holds = grind (arith, nat_tests, e)

-- no diagnostic of a smaller rank holds
abbrev pub NoneOfLowerRank : Schema → List Line → List Tree → Line → ℕ → Type 0
NoneOfLowerRank s lines trees l k =
    If (nat_lt 2 k) (l.number ≡ length trees + 1)
    × If (nat_lt 3 k) (NamesNoLine trees l → ⊥)
    × If (nat_lt 4 k) (UsesTwice lines l → ⊥)
    × If (nat_lt 5 k) (length trees < MOST_NODES)
    × If (nat_lt 6 k) (IsTooDeep trees l → ⊥)
    × If (nat_lt 7 k) ((why : FaultKind) → NodeFault s trees l l.body why → ⊥)

pub first_of : (s : Schema) (lines : List Line) (trees : List Tree) (l : Line) (k : ℕ) → k ≤ 8
    → NoneOfLowerRank s lines trees l k → (other : Diagnostic) → Wrong s lines trees l other → k ≤ rank other
first_of s lines trees l k high none wrong_number wrong = le_unless 2 k _ none.0 wrong
first_of s lines trees l k high none no_such_line wrong = le_unless 3 k _ none.1 (λ named. named wrong)
first_of s lines trees l k high none used_twice wrong = le_unless 4 k _ none.2 (λ once. once wrong)
first_of s lines trees l k high none too_many_lines wrong = le_unless 5 k _ none.3 (λ within_limit. omega (arith, within_limit, wrong))
first_of s lines trees l k high none too_deep wrong = le_unless 6 k _ none.4 (λ within_limit. within_limit wrong)
first_of s lines trees l k high none (unsound fault) wrong = le_unless 7 k _ none.5 (λ sound. sound fault.kind wrong.1)
first_of s lines trees l k high none (states_other stated concluded) wrong = high
first_of s lines trees l k high none _ wrong = absurd wrong

-- ---- the rule table gives one answer
-- what it says of the rule of a line
abbrev Says : Schema → List Tree → Line → Body → Result Dependency FaultKind → Type 0
Says s trees l (by_given k) r = ((k ≡ 0) × (r ≡ Err NoSuchGiven))
    ⊎ ((i : ℕ) × (k ≡ i + 1) × (leaf_conclusion (theory_in s) (given i) ≡ r))
Says s trees l by_reflexivity r = leaf_conclusion (theory_in s) (reflexivity (left_of l.stated) (right_of l.stated)) ≡ r
Says s trees l by_mreflexivity r = leaf_conclusion (theory_in s) (mreflexivity (left_of l.stated) (right_of l.stated)) ≡ r
Says s trees l (by_step rule p) r =
    (t : Tree) × (d : Dependency) × IsTreeAt trees p t × Proves (theory_in s) t d × (step_conclusion (theory_in s) rule d ≡ r)
Says s trees l (by_pair rule p q) r =
    (t : Tree) × (u : Tree) × (d : Dependency) × (e : Dependency) × IsTreeAt trees p t × IsTreeAt trees q u
    × Proves (theory_in s) t d × Proves (theory_in s) u e × (pair_conclusion rule d e ≡ r)

tree_says : (s : Schema) (trees : List Tree) (l : Line) (b : Body) (t : Tree) (d : Dependency) → IsTreeOf trees l b t
    → Proves (theory_in s) t d → Says s trees l b (Ok d)
tree_says s trees l (by_given k) t d tree proves =
    inr (tree.before, tree.number, subst (λ (v : Tree). Proves (theory_in s) v d) tree.tree proves)
tree_says s trees l by_reflexivity t d tree proves = subst (λ (v : Tree). Proves (theory_in s) v d) tree proves
tree_says s trees l by_mreflexivity t d tree proves = subst (λ (v : Tree). Proves (theory_in s) v d) tree proves
tree_says s trees l (by_step rule p) t d tree proves =
    let concludes : Proves (theory_in s) (step rule tree.premise) d = subst (λ (v : Tree). Proves (theory_in s) v d) tree.tree proves in
    (tree.premise, concludes.0, tree.earlier, concludes.1, concludes.2)
tree_says s trees l (by_pair rule p q) t d tree proves =
    let concludes : Proves (theory_in s) (pair rule tree.first tree.second) d =
    subst (λ (v : Tree). Proves (theory_in s) v d) tree.tree proves in (
      tree.first,
      tree.second,
      concludes.0,
      concludes.1,
      tree.first_earlier,
      tree.second_earlier,
      concludes.2,
      concludes.3,
      concludes.4,
    )

fault_says : (s : Schema) (trees : List Tree) (l : Line) (b : Body) (why : FaultKind) → NodeFault s trees l b why
    → Says s trees l b (Err why)
fault_says s trees l (by_given k) why (inl none) = inl (none.0, ap Err none.1)
fault_says s trees l (by_given k) why (inr not_empty) = inr not_empty
fault_says s trees l by_reflexivity why fault = fault
fault_says s trees l by_mreflexivity why fault = fault
fault_says s trees l (by_step rule p) why fault =
    (fault.premise, fault.conclusion, fault.at, fault.proves, fault.refused)
fault_says s trees l (by_pair rule p q) why fault = (
  fault.first,
  fault.second,
  fault.left,
  fault.right,
  fault.first_at,
  fault.second_at,
  fault.first_proves,
  fault.second_proves,
  fault.refused,
)

-- the line of a number proves one dependency
one_proved : (s : Schema) (trees : List Tree) (p : ℕ) (t u : Tree) (d e : Dependency) → IsTreeAt trees p t
    → IsTreeAt trees p u → Proves (theory_in s) t d → Proves (theory_in s) u e → d ≡ e
one_proved s trees p t u d e first second proves other =
    Proves-one (theory_in s) u d e (subst (λ (v : Tree). Proves (theory_in s) v d) (same_tree trees p t u first second) proves) other

one_says : (s : Schema) (trees : List Tree) (l : Line) (b : Body) (x y : Result Dependency FaultKind)
    → Says s trees l b x → Says s trees l b y → x ≡ y
one_says s trees l (by_given k) x y (inl first) (inl second) = first.1 ∙ sym second.1
one_says s trees l (by_given k) x y (inl first) (inr second) = absurd (omega (arith, first.0, second.1))
one_says s trees l (by_given k) x y (inr first) (inl second) = absurd (omega (arith, first.1, second.0))
one_says s trees l (by_given k) x y (inr first) (inr second) =
    let same : first.0 ≡ second.0 = omega (arith, first.1, second.1) in
    sym first.2 ∙ ap (λ i. leaf_conclusion (theory_in s) (given i)) same ∙ second.2
one_says s trees l by_reflexivity x y first second = sym first ∙ second
one_says s trees l by_mreflexivity x y first second = sym first ∙ second
one_says s trees l (by_step rule p) x y first second =
    let same = one_proved s trees p first.0 second.0 first.1 second.1 first.2 second.2 first.3 second.3 in
    sym first.4 ∙ ap (step_conclusion (theory_in s) rule) same ∙ second.4
one_says s trees l (by_pair rule p q) x y first second =
    let left = one_proved s trees p first.0 second.0 first.2 second.2 first.4 second.4 first.6 second.6 in
    let right = one_proved s trees q first.1 second.1 first.3 second.3 first.5 second.5 first.7 second.7 in
    sym first.8 ∙ (λ i. pair_conclusion rule (left i) (right i)) ∙ second.8

pub no_fault : (s : Schema) (trees : List Tree) (l : Line) (b : Body) (t : Tree) (d : Dependency) (why : FaultKind)
    → IsTreeOf trees l b t → Proves (theory_in s) t d → NodeFault s trees l b why → ⊥
no_fault s trees l b t d why tree proves fault =
    let wrong : ◌≡◌ {A = Result Dependency FaultKind} (Ok d) (Err why) =
    one_says s trees l b _ _ (tree_says s trees l b t d tree proves) (fault_says s trees l b why fault) in cc

-- what is wrong with a line is one diagnostic of each rank
pub one_of_rank : (s : Schema) (lines : List Line) (trees : List Tree) (l : Line) (c d : Diagnostic) → rank c ≡ rank d
    → Wrong s lines trees l c → Wrong s lines trees l d → c ≡ d
one_of_rank s lines trees l wrong_number wrong_number e wrong other = refl
one_of_rank s lines trees l no_such_line no_such_line e wrong other = refl
one_of_rank s lines trees l used_twice used_twice e wrong other = refl
one_of_rank s lines trees l too_many_lines too_many_lines e wrong other = refl
one_of_rank s lines trees l too_deep too_deep e wrong other = refl
one_of_rank s lines trees l (unsound f) (unsound g) e wrong other =
    let same : ◌≡◌ {A = Result Dependency FaultKind} (Err f.kind) (Err g.kind) =
    one_says s trees l l.body _ _ (fault_says s trees l l.body f.kind wrong.1)
    (fault_says s trees l l.body g.kind other.1) in
    let why : f.kind ≡ g.kind = cc in
    let node = wrong.0 ∙ sym other.0 in
    (λ i. unsound (record { node = node i; kind = why i }))
one_of_rank s lines trees l (states_other stated concluded) (states_other says proves) e wrong other =
    let tree = tree_of_line trees l l.body wrong.1.tree other.1.tree wrong.1.is other.1.is in
    let moved = subst (λ (t : Tree). Proves (theory_in s) t concluded) tree wrong.1.proves in
    let same = Proves-one (theory_in s) other.1.tree concluded proves moved other.1.proves in
    (λ i. states_other ((wrong.0 ∙ sym other.0) i) (same i))
one_of_rank s lines trees l (bad_line why) d e wrong other = absurd wrong
one_of_rank s lines trees l never_used d e wrong other = absurd wrong
one_of_rank s lines trees l empty_proof d e wrong other = absurd wrong
one_of_rank s lines trees l c d e wrong other = absurd (omega (arith, e))

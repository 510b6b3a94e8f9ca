-- Why no node of a line is prepared, and what is known of one that is.
use Rattle.std.proofs.Common.{◌≡◌, ◌<◌, ◌⊎◌, inl, inr, ⊎_elim, ◌+◌, ◌-◌, ◌==◌, ℕ, Bool, true, false, cond, ◌&&◌, List, [], ◌∷◌, length, Option, Some, None, Result, Ok, Err, refl, sym, ◌∙◌, ap, subst, arith}
use Rattle.proof_grammar.proofs.CheckedLemmas.{with_tree-ok}
use Rattle.std.specs.Prelude.{max, nat_lt, nat_le}
use Rattle.std.proofs.lemmas.Bool.{cases_lt}
use Rattle.std.proofs.lemmas.Bool.Decides.{nat_tests}
use Rattle.std.proofs.lemmas.List.{length-set}
use Rattle.schema_model.specs.Schemas.{Schema, theory_in}
use Rattle.dep_model.specs.Dependencies.{Dependency, left_of, right_of}
use Rattle.derivation.specs.declared.fault.FaultKind.{FaultKind}
use Rattle.derivation.specs.declared.fault.FaultKind.TheVariants.{NoSuchGiven}
use Rattle.derivation.specs.declared.measures.TheConstants.{MOST_LEVELS}
use Rattle.derivation.specs.Trees.{Tree, Leaf, Step, Pair, leaf, step, pair, given, reflexivity, mreflexivity, depth}
use Rattle.derivation.specs.Table.{leaf_conclusion, step_conclusion, pair_conclusion}
use Rattle.derivation.specs.Conclusions.{Proves}
use Rattle.derivation.proofs.WithinLemmas.{TreeOfAttributes, StepOfAttributes}
use Rattle.proof_grammar.specs.CheckerStates.{Opened, Prepared, is_earlier, open_at, close_line, step_node, pair_node, prepare_line}
use Rattle.proof_grammar.specs.Diagnostics.{Diagnostic, no_such_line, used_twice}
use Rattle.proof_grammar.specs.Lines.{Body, by_given, by_reflexivity, by_mreflexivity, by_step, by_pair, Line}
use Rattle.proof_grammar.specs.Nodes.{with_tree}
use Rattle.proof_grammar.specs.Spelling.{IsTreeOf, premises_of, uses}
use Rattle.proof_grammar.specs.Wrongs.{NamesNoLine, UsesTwice, NodeFault}
use Rattle.proof_grammar.proofs.NodeLemmas.{uses-append}
use Rattle.proof_grammar.proofs.OneTree.{tree_of_line}
use Rattle.proof_grammar.proofs.PremiseLemmas.{earlier_slot, premise_taken, times_self, times_two}
use Rattle.proof_grammar.proofs.PreparedLaws.{IsLineOfAttributes, AllEarlier, AllOnce, earlier_more, once_more}
use Rattle.proof_grammar.proofs.SlotLemmas.{AreSlots, times, slots_size, slots_same}

-- ---- what is prepared
-- the outcome is what the rule table says of the line's rule, and the premises are used
pub record IsOutcome (s : Schema) (used : ℕ → ℕ) (ts : List Tree) (l : Line) (p : Prepared) : Type 0 where
  pub levels : (t : Tree) → IsTreeOf ts l l.body t → p.levels ≡ depth t
  pub deep : MOST_LEVELS < p.levels → (t : Tree) × IsTreeOf ts l l.body t
  pub fails : (why : FaultKind) → p.outcome ≡ Err why → NodeFault s ts l l.body why
  pub gives : (u : Tree) (d : Dependency) → p.outcome ≡ Ok (u, d)
      → IsTreeOf ts l l.body u × Proves (theory_in s) u d × TreeOfAttributes u
  pub slots : AreSlots s (λ n. used n + times n (premises_of l.body)) 0 ts p.unused

abbrev pub Prepares : Schema → List Line → List Tree → Line → Result Prepared Diagnostic → Type 0
Prepares s lines ts l (Ok p) = AllEarlier ts (premises_of l.body) × AllOnce (λ n. uses n lines) (premises_of l.body)
    × IsOutcome s (λ n. uses n lines) ts l p
Prepares s lines ts l (Err no_such_line) = NamesNoLine ts l
Prepares s lines ts l (Err used_twice) = AllEarlier ts (premises_of l.body) × UsesTwice lines l
Prepares s lines ts l (Err _) = ⊥

late_missing : (ts : List Tree) (os : List (Option Opened)) (p : ℕ) → length os ≡ length ts → is_earlier os p ≡ false
    → (p ≡ 0) ⊎ (length ts < p)
late_missing ts os p size e =
    ⊎_elim (λ not_empty. inr (grind (arith, nat_tests, e, size, not_empty))) (λ none. inl (omega (arith, none))) (cases_lt 0 p)

with_tree_err : (t : Tree) (r : Result Dependency FaultKind) (why : FaultKind) → with_tree t r ≡ Err why → r ≡ Err why
with_tree_err t (Ok e) why h = cc
with_tree_err t (Err other) why h = let same : other ≡ why = cc in ap Err same

-- a node whose tree is known
outcome_of : (s : Schema) (used : ℕ → ℕ) (ts : List Tree) (l : Line) (levels : ℕ) (w t : Tree)
    (r : Result Dependency FaultKind) (unused : List (Option Opened)) → w ≡ t → IsTreeOf ts l l.body t
    → levels ≡ depth t → TreeOfAttributes t → ((d : Dependency) → r ≡ Ok d → Proves (theory_in s) t d)
    → ((why : FaultKind) → r ≡ Err why → NodeFault s ts l l.body why)
    → AreSlots s (λ n. used n + times n (premises_of l.body)) 0 ts unused
    → IsOutcome s used ts l (record { levels = levels; outcome = with_tree w r; unused = unused })
outcome_of s used ts l levels w t r unused same tree deep attributes gives fails slots = record {
  levels = λ u is. deep ∙ ap depth (tree_of_line ts l l.body t u tree is);
  deep = λ h. (t, tree);
  fails = λ why h. fails why (with_tree_err w r why h);
  gives = λ u d h.
      let both = with_tree-ok w u r d h in
      subst (λ (v : Tree). IsTreeOf ts l l.body v × Proves (theory_in s) v d × TreeOfAttributes v) (sym same ∙ both.0)
      (tree, gives d both.1, attributes);
  slots = slots;
}

-- ---- a rule with one premise
step_prepares : (s : Schema) (lines : List Line) (ts : List Tree) (os : List (Option Opened)) (n : ℕ)
    (stated : Dependency) (rule : Step) (q : ℕ) (b : Bool) (o : Option Opened) → AreSlots s (λ m. uses m lines) 0 ts os
    → StepOfAttributes rule → is_earlier os q ≡ b → open_at os q ≡ o
    → Prepares s lines ts (record { number = n; stated = stated; body = by_step rule q })
    (cond b (step_node s rule o (close_line os q)) (Err no_such_line))
step_prepares s lines ts os n stated rule q false o slots own earlier here = record {
  premise = q;
  named = omega (arith, times_self q);
  missing = late_missing ts os q (slots_size s (λ m. uses m lines) 0 ts os slots) earlier;
}
step_prepares s lines ts os n stated rule q true None slots own earlier here =
    let slot = earlier_slot s (λ m. uses m lines) ts os q None slots earlier here in
    let l : Line = record { number = n; stated = stated; body = by_step rule q } in (
      earlier_more ts q [] slot.0 slot.1 (λ m not_empty. absurd (omega (arith, not_empty))),
      record {
        premise = q;
        named = omega (arith, times_self q);
        twice = omega (arith, times_self q, slot.2, uses-append q lines (l ∷ []));
      },
    )
step_prepares s lines ts os n stated rule q true (Some o) slots own earlier here =
    let used : ℕ → ℕ = λ m. uses m lines in
    let slot = earlier_slot s used ts os q (Some o) slots earlier here in
    let is = slot.2.1 in
    let l : Line = record { number = n; stated = stated; body = by_step rule q } in (
      earlier_more ts q [] slot.0 slot.1 (λ m not_empty. absurd (omega (arith, not_empty))),
      once_more used q [] slot.2.0 (λ m not_empty. absurd (omega (arith, not_empty))),
      outcome_of s used ts l (o.levels + 1) (step rule o.tree) (step rule slot.0)
          (step_conclusion (theory_in s) rule o.conclusion) (close_line os q) (ap (step rule) is.tree)
          (record { premise = slot.0; earlier = slot.1; tree = refl }) (ap (λ k. k + 1) is.levels)
          (own, is.attributes) (λ d h. (o.conclusion, is.proves, h))
          (λ why h. record { premise = slot.0; conclusion = o.conclusion; at = slot.1; proves = is.proves; refused = h })
          (premise_taken s used ts os q slots (omega (arith, slot.1.number)) slot.2.0),
    )

-- ---- a rule with two premises
pair_prepares : (s : Schema) (lines : List Line) (ts : List Tree) (os : List (Option Opened)) (n : ℕ)
    (stated : Dependency) (rule : Pair) (q r : ℕ) (a b : Bool) (o w : Option Opened)
    → AreSlots s (λ m. uses m lines) 0 ts os → is_earlier os q ≡ a → is_earlier os r ≡ b → open_at os q ≡ o
    → open_at (close_line os q) r ≡ w
    → Prepares s lines ts (record { number = n; stated = stated; body = by_pair rule q r })
    (cond (a && b) (pair_node rule o w (close_line (close_line os q) r)) (Err no_such_line))
pair_prepares s lines ts os n stated rule q r false b o w slots first second here there = record {
  premise = q;
  named = omega (arith, times_two q q r, times_self q);
  missing = late_missing ts os q (slots_size s (λ m. uses m lines) 0 ts os slots) first;
}
pair_prepares s lines ts os n stated rule q r true false o w slots first second here there = record {
  premise = r;
  named = omega (arith, times_two r q r, times_self r);
  missing = late_missing ts os r (slots_size s (λ m. uses m lines) 0 ts os slots) second;
}
pair_prepares s lines ts os n stated rule q r true true None w slots first second here there =
    let used : ℕ → ℕ = λ m. uses m lines in
    let left = earlier_slot s used ts os q None slots first here in
    let right = earlier_slot s used ts os r _ slots second refl in
    let l : Line = record { number = n; stated = stated; body = by_pair rule q r } in (
      earlier_more ts q (r ∷ []) left.0 left.1
          (earlier_more ts r [] right.0 right.1 (λ m not_empty. absurd (omega (arith, not_empty)))),
      record {
        premise = q;
        named = omega (arith, times_two q q r, times_self q);
        twice = omega (arith, times_two q q r, times_self q, left.2, uses-append q lines (l ∷ []));
      },
    )
pair_prepares s lines ts os n stated rule q r true true (Some o) None slots first second here there =
    let used : ℕ → ℕ = λ m. uses m lines in
    let left = earlier_slot s used ts os q (Some o) slots first here in
    let later = premise_taken s used ts os q slots (omega (arith, left.1.number)) left.2.0 in
    let right = earlier_slot s (λ m. used m + times m (q ∷ [])) ts (close_line os q) r None later
    (ap (λ m. nat_lt 0 r && nat_le r m) (length-set os (q - 1) None) ∙ second) there in
    let l : Line = record { number = n; stated = stated; body = by_pair rule q r } in (
      earlier_more ts q (r ∷ []) left.0 left.1
          (earlier_more ts r [] right.0 right.1 (λ m not_empty. absurd (omega (arith, not_empty)))),
      record {
        premise = r;
        named = omega (arith, times_two r q r, times_self r);
        twice = omega (arith, times_two r q r, times_self r, right.2, uses-append r lines (l ∷ []));
      },
    )
pair_prepares s lines ts os n stated rule q r true true (Some o) (Some w) slots first second here there =
    let used : ℕ → ℕ = λ m. uses m lines in
    let next : ℕ → ℕ = λ m. used m + times m (q ∷ []) in
    let left = earlier_slot s used ts os q (Some o) slots first here in
    let later = premise_taken s used ts os q slots (omega (arith, left.1.number)) left.2.0 in
    let right = earlier_slot s next ts (close_line os q) r (Some w) later
    (ap (λ m. nat_lt 0 r && nat_le r m) (length-set os (q - 1) None) ∙ second) there in
    let one = left.2.1 in
    let two = right.2.1 in
    let l : Line = record { number = n; stated = stated; body = by_pair rule q r } in (
      earlier_more ts q (r ∷ []) left.0 left.1
          (earlier_more ts r [] right.0 right.1 (λ m not_empty. absurd (omega (arith, not_empty)))),
      once_more used q (r ∷ []) left.2.0 (once_more next r [] right.2.0 (λ m not_empty. absurd (omega (arith, not_empty)))),
      outcome_of s used ts l (max o.levels w.levels + 1) (pair rule o.tree w.tree) (pair rule left.0 right.0)
          (pair_conclusion rule o.conclusion w.conclusion) (close_line (close_line os q) r)
          (λ i. pair rule (one.tree i) (two.tree i))
          (record {
            first = left.0;
            second = right.0;
            first_earlier = left.1;
            second_earlier = right.1;
            tree = refl;
          })
          (λ i. max (one.levels i) (two.levels i) + 1) (one.attributes, two.attributes)
          (λ d h. (o.conclusion, w.conclusion, one.proves, two.proves, h))
          (λ why h. record {
            first = left.0;
            second = right.0;
            left = o.conclusion;
            right = w.conclusion;
            first_at = left.1;
            second_at = right.1;
            first_proves = one.proves;
            second_proves = two.proves;
            refused = h;
          })
          (slots_same s (λ m. next m + times m (r ∷ [])) (λ m. used m + times m (q ∷ r ∷ [])) 0 ts
          (close_line (close_line os q) r) (λ m h. omega (arith, times_two m q r))
          (premise_taken s next ts (close_line os q) r later (omega (arith, right.1.number)) right.2.0)),
    )

-- ---- a rule with none
leaf_prepares : (s : Schema) (lines : List Line) (ts : List Tree) (os : List (Option Opened)) (l : Line) (rule : Leaf)
    → premises_of l.body ≡ [] → AreSlots s (λ m. uses m lines) 0 ts os → IsTreeOf ts l l.body (leaf rule)
    → TreeOfAttributes (leaf rule) → ((why : FaultKind) → leaf_conclusion (theory_in s) rule ≡ Err why → NodeFault s ts l l.body why)
    → Prepares s lines ts l
    (Ok (record { levels = 1; outcome = with_tree (leaf rule) (leaf_conclusion (theory_in s) rule); unused = os }))
leaf_prepares s lines ts os l rule none slots tree attributes fails =
    let used : ℕ → ℕ = λ m. uses m lines in (
      subst (AllEarlier ts) (sym none) (λ n not_empty. absurd (omega (arith, not_empty))),
      subst (AllOnce used) (sym none) (λ n not_empty. absurd (omega (arith, not_empty))),
      outcome_of s used ts l 1 (leaf rule) (leaf rule) (leaf_conclusion (theory_in s) rule) os refl tree refl attributes
          (λ d h. h) fails (slots_same s used (λ m. used m + times m (premises_of l.body)) 0 ts os
          (λ m h. omega (arith, ap (times m) none)) slots),
    )

given_prepares : (s : Schema) (lines : List Line) (ts : List Tree) (os : List (Option Opened)) (n : ℕ)
    (stated : Dependency) (k : ℕ) (b : Bool) → AreSlots s (λ m. uses m lines) 0 ts os → (k == 0) ≡ b
    → Prepares s lines ts (record { number = n; stated = stated; body = by_given k }) (Ok (record {
      levels = 1;
      outcome = cond b (Err NoSuchGiven) (with_tree (leaf (given (k - 1))) (leaf_conclusion (theory_in s) (given (k - 1))));
      unused = os;
    }))
given_prepares s lines ts os n stated k true slots is = (
  λ m not_empty. absurd (omega (arith, not_empty)),
  λ m not_empty. absurd (omega (arith, not_empty)),
  record {
    levels = λ t tree. absurd (grind (arith, nat_tests, is, tree.number));
    deep = λ h. absurd (omega (arith, h));
    fails = λ why h. let same : NoSuchGiven ≡ why = cc in inl (grind (arith, nat_tests, is), sym same);
    gives = λ u d h. cc;
    slots = slots_same s (λ m. uses m lines) (λ m. uses m lines + times m []) 0 ts os (λ m h. omega arith) slots;
  },
)
given_prepares s lines ts os n stated k false slots is =
    let number : k ≡ k - 1 + 1 = grind (arith, nat_tests, is) in
    leaf_prepares s lines ts os (record { number = n; stated = stated; body = by_given k }) (given (k - 1)) refl slots
    (record { before = k - 1; number = number; tree = refl }) tt (λ why h. inr (k - 1, number, h))

-- ---- any line
-- what is prepared of a line, or why nothing is
pub prepares : (s : Schema) (lines : List Line) (ts : List Tree) (os : List (Option Opened)) (n : ℕ)
    (stated : Dependency) (b : Body) → AreSlots s (λ m. uses m lines) 0 ts os
    → IsLineOfAttributes (record { number = n; stated = stated; body = b })
    → Prepares s lines ts (record { number = n; stated = stated; body = b }) (prepare_line s os stated b)
unfolding prepare_line
prepares s lines ts os n stated (by_given k) slots own = given_prepares s lines ts os n stated k (k == 0) slots refl
prepares s lines ts os n stated by_reflexivity slots own =
    leaf_prepares s lines ts os (record { number = n; stated = stated; body = by_reflexivity })
    (reflexivity (left_of stated) (right_of stated)) refl slots refl (own.left, own.right) (λ why h. h)
prepares s lines ts os n stated by_mreflexivity slots own =
    leaf_prepares s lines ts os (record { number = n; stated = stated; body = by_mreflexivity })
    (mreflexivity (left_of stated) (right_of stated)) refl slots refl (own.left, own.right) (λ why h. h)
prepares s lines ts os n stated (by_step rule q) slots own =
    step_prepares s lines ts os n stated rule q (is_earlier os q) (open_at os q) slots own.body refl refl
prepares s lines ts os n stated (by_pair rule q r) slots own =
    pair_prepares s lines ts os n stated rule q r (is_earlier os q) (is_earlier os r) (open_at os q)
    (open_at (close_line os q) r) slots refl refl refl refl

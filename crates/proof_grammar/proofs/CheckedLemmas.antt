-- What is read proves: each open line of a checker state has a tree that proves its conclusion, and no
-- node stands in two of them.
use Rattle.std.proofs.Common.{◌≡◌, ◌<◌, ◌≤◌, ◌+◌, ◌-◌, ◌==◌, ℕ, zero, suc, Bool, true, List, [], ◌∷◌, ◌++◌, length, Option, Some, None, Result, Ok, Err, refl, sym, ◌∙◌, ap, subst, cond, max, arith, nat_lt, nat_le, length-append}
use Rattle.std.specs.Prelude.{slice_get, slice_set, ◌&&◌, option_map}
use Rattle.std.specs.Result.{IfOk}
use Rattle.std.proofs.lemmas.Bool.{cond_both}
use Rattle.std.proofs.lemmas.Bool.Decides.{nat_tests}
use Rattle.std.proofs.lemmas.List.{length-set}
use Rattle.std.proofs.lemmas.Result.{IfOk-weaker}
use Rattle.schema_model.specs.Schemas.{Schema, theory_in}
use Rattle.dep_model.specs.Dependencies.{Dependency, left_of, right_of}
use Rattle.derivation.specs.declared.fault.FaultKind.{FaultKind}
use Rattle.derivation.specs.declared.fault.FaultKind.TheVariants.{NoSuchGiven}
use Rattle.derivation.proofs.RuleTableLemmas.{the_ok}
use Rattle.derivation.specs.Trees.{Tree, leaf, step, pair, Step, Pair, given, reflexivity, mreflexivity, nodes, depth}
use Rattle.derivation.specs.Table.{leaf_conclusion, step_conclusion, pair_conclusion}
use Rattle.derivation.specs.Conclusions.{Proves}
use Rattle.derivation.specs.declared.measures.TheConstants.{MOST_NODES, MOST_LEVELS}
use Rattle.proof_grammar.specs.Diagnostics.{Diagnostic, no_such_line, wrong_number, too_many_lines, too_deep, states_other}
use Rattle.proof_grammar.specs.Lines.{Body, by_given, by_reflexivity, by_mreflexivity, by_step, by_pair, Line, certificate_line}
use Rattle.schema_grammar.specs.Rests.{◌>>=◌, rest_from}
use Rattle.schema_grammar.proofs.RefusalLemmas.{ok_at}
use Rattle.proof_grammar.specs.Nodes.{with_tree, same_dependency}
use Rattle.proof_grammar.specs.CheckerStates.{Opened, CheckerStateValue, Prepared, option_flatten, is_earlier, open_at, close_line, step_node, pair_node, prepare_line, concluded_as, within_limits, add_line, enter_line, first_unused, root, concluded_by, root_conclusion, finished_at, finished_certificate}
use Rattle.proof_grammar.specs.declared.line_kind.LineKind.{LineKind}
use Rattle.proof_grammar.specs.declared.line_kind.LineKind.TheVariants.{Blank, Opening, Certificate}
use Rattle.lexer.specs.Modes as mode
use Rattle.lexer.specs.Lines.{line_texts, without_mark}
use Rattle.lexer.specs.Tokens.{lex}
use Rattle.schema_model.specs.Schemas.{names_of, naming_of}
use Rattle.proof_grammar.specs.Texts.{in_line, read_as, line_kind, read_one, at_line, read_certificate_lines, read_proof}
use Rattle.proof_grammar.specs.Checked.{IsChecked}
use Rattle.proof_grammar.specs.ValidStates.{ProvesItsConclusion, IfOpen, AllStand, open_nodes, all_nodes, IsCheckerState}

AllStand-get : (s : Schema) (os : List (Option Opened)) (i : ℕ) (o : Option Opened) → AllStand s os
    → option_flatten (slice_get os i) ≡ o → IfOpen s o
AllStand-get s [] i o all e = subst (IfOpen s) e (tt {0})
AllStand-get s (x ∷ os) zero o all e = subst (IfOpen s) e all.0
AllStand-get s (x ∷ os) (suc i) o all e = AllStand-get s os i o all.1 e

AllStand-close : (s : Schema) (os : List (Option Opened)) (i : ℕ) → AllStand s os → AllStand s (slice_set os i None)
AllStand-close s [] i all = tt {0}
AllStand-close s (o ∷ os) zero all = (tt {0}, all.1)
AllStand-close s (o ∷ os) (suc i) all = (all.0, AllStand-close s os i all.1)

all_nodes-close : (os : List (Option Opened)) (i : ℕ) (o : Option Opened) → option_flatten (slice_get os i) ≡ o
    → all_nodes (slice_set os i None) + open_nodes o ≡ all_nodes os
all_nodes-close [] i o e = omega (arith, ap open_nodes e)
all_nodes-close (x ∷ os) zero o e = omega (arith, ap open_nodes e)
all_nodes-close (x ∷ os) (suc i) o e = omega (arith, all_nodes-close os i o e)

pub AllStand-push : (s : Schema) (os : List (Option Opened)) (o : Opened) → AllStand s os → ProvesItsConclusion s o → AllStand s (os ++ Some o ∷ [])
AllStand-push s [] o all stands = (stands, tt {0})
AllStand-push s (x ∷ os) o all stands = (all.0, AllStand-push s os o all.1 stands)

pub all_nodes-push : (os : List (Option Opened)) (o : Opened) → all_nodes (os ++ Some o ∷ []) ≡ all_nodes os + nodes o.tree
all_nodes-push [] o = omega arith
all_nodes-push (x ∷ os) o = omega (arith, all_nodes-push os o)

-- what is prepared: the node proves what its rule concludes, and its premises are closed
pub record IsPrepared (s : Schema) (before : List (Option Opened)) (p : Prepared) : Type 0 where
  pub stand : AllStand s p.unused
  pub same_length : length p.unused ≡ length before
  pub proves : (t : Tree) (d : Dependency) → p.outcome ≡ Ok (t, d) → Proves (theory_in s) t d
  pub levels : (t : Tree) (d : Dependency) → p.outcome ≡ Ok (t, d) → depth t ≡ p.levels
  pub counted : (t : Tree) (d : Dependency) → p.outcome ≡ Ok (t, d) → nodes t + all_nodes p.unused ≡ all_nodes before + 1

pub with_tree-ok : (t u : Tree) (r : Result Dependency FaultKind) (d : Dependency) → with_tree t r ≡ Ok (u, d) → (t ≡ u) × (r ≡ Ok d)
with_tree-ok t u (Ok e) d h =
    let same : (t, e) ≡ (u, d) = the_ok {A = Tree × Dependency} {E = FaultKind} (t, e) (u, d) h in
    (ap (λ (x : Tree × Dependency). x.0) same, ap (λ (x : Tree × Dependency). Ok x.1) same)
with_tree-ok t u (Err why) d h = cc

-- a node whose tree and rule are known
known_node : (s : Schema) (before after : List (Option Opened)) (levels : ℕ) (t : Tree) (r : Result Dependency FaultKind) → AllStand s after → length after ≡ length before
    → ((d : Dependency) → r ≡ Ok d → Proves (theory_in s) t d) → depth t ≡ levels → nodes t + all_nodes after ≡ all_nodes before + 1
    → IsPrepared s before (record { levels = levels; outcome = with_tree t r; unused = after })
known_node s before after levels t r stand same_length proves deep count = record {
  stand = stand;
  same_length = same_length;
  proves = λ u d h. let w = with_tree-ok t u r d h in subst (λ (x : Tree). Proves (theory_in s) x d) w.0 (proves d w.1);
  levels = λ u d h. let w = with_tree-ok t u r d h in subst (λ (x : Tree). depth x ≡ levels) w.0 deep;
  counted = λ u d h. let w = with_tree-ok t u r d h in subst (λ (x : Tree). nodes x + all_nodes after ≡ all_nodes before + 1) w.0 count;
}

step_prepared : (s : Schema) (rule : Step) (os : List (Option Opened)) (q : ℕ) (o : Option Opened)
    → open_at os q ≡ o → AllStand s os
    → IfOk (step_node s rule o (close_line os q)) (IsPrepared s os)
step_prepared s rule os q None e all = tt
step_prepared s rule os q (Some o) e all =
    let stands = AllStand-get s os (q - 1) (Some o) all e in
    known_node s os (close_line os q) (o.levels + 1) (step rule o.tree) (step_conclusion (theory_in s) rule o.conclusion)
    (AllStand-close s os (q - 1) all) (length-set os (q - 1) None)
    (λ d given_d. (o.conclusion, stands.proves, given_d))
    (omega (arith, stands.levels)) (omega (arith, all_nodes-close os (q - 1) (Some o) e))

pair_prepared : (s : Schema) (rule : Pair) (os : List (Option Opened)) (q r : ℕ) (o u : Option Opened)
    → open_at os q ≡ o → open_at (close_line os q) r ≡ u → AllStand s os
    → IfOk (pair_node rule o u (close_line (close_line os q) r)) (IsPrepared s os)
pair_prepared s rule os q r None u e f all = tt
pair_prepared s rule os q r (Some o) None e f all = tt
pair_prepared s rule os q r (Some o) (Some u) e f all =
    let first = AllStand-get s os (q - 1) (Some o) all e in
    let rest = AllStand-close s os (q - 1) all in
    let second = AllStand-get s (close_line os q) (r - 1) (Some u) rest f in
    known_node s os (close_line (close_line os q) r) (max o.levels u.levels + 1) (pair rule o.tree u.tree)
    (pair_conclusion rule o.conclusion u.conclusion)
    (AllStand-close s (close_line os q) (r - 1) rest)
    (length-set (close_line os q) (r - 1) None ∙ length-set os (q - 1) None)
    (λ d given_d. (o.conclusion, u.conclusion, first.proves, second.proves, given_d))
    (omega (arith, first.levels, second.levels))
    (omega (arith, all_nodes-close os (q - 1) (Some o) e, all_nodes-close (close_line os q) (r - 1) (Some u) f))

all_prepared : (s : Schema) (os : List (Option Opened)) (stated : Dependency) (b : Body) → AllStand s os
    → IfOk (prepare_line s os stated b) (IsPrepared s os)
unfolding prepare_line
all_prepared s os stated (by_given k) all =
    cond_both (k == 0) (Err NoSuchGiven) (with_tree (leaf (given (k - 1))) (leaf_conclusion (theory_in s) (given (k - 1))))
    (λ r. IsPrepared s os (record { levels = 1; outcome = r; unused = os }))
    (λ none. record {
      stand = all;
      same_length = refl;
      proves = λ u d h. cc;
      levels = λ u d h. cc;
      counted = λ u d h. cc;
    })
    (λ not_empty. known_node s os os 1 (leaf (given (k - 1))) (leaf_conclusion (theory_in s) (given (k - 1))) all refl
    (λ d h. h) refl (omega arith))
all_prepared s os stated by_reflexivity all =
    known_node s os os 1 (leaf (reflexivity (left_of stated) (right_of stated)))
    (leaf_conclusion (theory_in s) (reflexivity (left_of stated) (right_of stated))) all refl (λ d h. h) refl (omega arith)
all_prepared s os stated by_mreflexivity all =
    known_node s os os 1 (leaf (mreflexivity (left_of stated) (right_of stated)))
    (leaf_conclusion (theory_in s) (mreflexivity (left_of stated) (right_of stated))) all refl (λ d h. h) refl (omega arith)
all_prepared s os stated (by_step rule q) all =
    cond_both (is_earlier os q) (step_node s rule (open_at os q) (close_line os q)) (Err no_such_line)
    (λ r. IfOk r (IsPrepared s os))
    (λ earlier. step_prepared s rule os q (open_at os q) refl all) (λ other. tt)
all_prepared s os stated (by_pair rule q r) all =
    cond_both (is_earlier os q && is_earlier os r)
    (pair_node rule (open_at os q) (open_at (close_line os q) r) (close_line (close_line os q) r)) (Err no_such_line)
    (λ x. IfOk x (IsPrepared s os))
    (λ earlier. pair_prepared s rule os q r (open_at os q) (open_at (close_line os q) r) refl refl all)
    (λ other. tt)

pub prepared_is : (s : Schema) (os : List (Option Opened)) (stated : Dependency) (b : Body) (p : Prepared)
    → AllStand s os → prepare_line s os stated b ≡ Ok p → IsPrepared s os p
prepared_is s os stated b p all h =
    ok_at (IsPrepared s os) (prepare_line s os stated b) p h (all_prepared s os stated b all)

pub bind_ok : {A B E : Type 0} (r : Result A E) (f : A → Result B E) (y : B) → (r >>= f) ≡ Ok y → (x : A) × (r ≡ Ok x) × (f x ≡ Ok y)
bind_ok (Ok x) f y h = (x, refl, h)
bind_ok (Err e) f y h = cc

-- what holds after each value that comes first
pub bind_each : {A B E : Type 0} (P : B → Type 0) (r : Result A E) (f : A → Result B E)
    → ((x : A) → r ≡ Ok x → IfOk (f x) P) → IfOk (r >>= f) P
bind_each P (Ok x) f each = each x refl
bind_each P (Err e) f each = tt

-- what passes the limits concludes what was prepared
record PassesLimits (before levels : ℕ) (outcome : Result (Tree × Dependency) FaultKind) (o : Opened) : Type 0 where
  lines_fit : before < MOST_NODES
  levels_fit : levels ≤ MOST_LEVELS
  same_levels : o.levels ≡ levels
  prepared_so : outcome ≡ Ok (o.tree, o.conclusion)

concluded_ok : (n levels : ℕ) (stated : Dependency) (outcome : Result (Tree × Dependency) FaultKind)
    → IfOk (concluded_as n stated levels outcome)
    (λ o. (outcome ≡ Ok (o.tree, o.conclusion)) × (o.levels ≡ levels))
concluded_ok n levels stated (Ok x) =
    let concludes : Opened → Type 0 = λ o.
    (◌≡◌ {A = Result (Tree × Dependency) FaultKind} (Ok x) (Ok (o.tree, o.conclusion))) × (o.levels ≡ levels) in
    let opened : Opened = record { tree = x.0; levels = levels; conclusion = x.1 } in
    cond_both (same_dependency stated x.1) (Ok opened) (Err (states_other stated x.1)) (λ r. IfOk r concludes)
    (λ same. (refl, refl)) (λ other. tt)
concluded_ok n levels stated (Err why) = tt

within_limits_ok : (before : ℕ) (l : Line) (levels : ℕ) (outcome : Result (Tree × Dependency) FaultKind)
    → IfOk (within_limits before l levels outcome) (PassesLimits before levels outcome)
unfolding within_limits
within_limits_ok before l levels outcome =
    let last = concluded_as l.number l.stated levels outcome in
    let holds : Result Opened Diagnostic → Type 0 = λ r. IfOk r (PassesLimits before levels outcome) in
    cond_both (nat_le MOST_NODES before) (Err too_many_lines)
    (cond (nat_lt MOST_LEVELS levels) (Err too_deep) last) holds (λ many. tt)
    (λ within_limit. cond_both (nat_lt MOST_LEVELS levels) (Err too_deep) last holds (λ deep. tt)
    (λ flat. IfOk-weaker last (λ o. (outcome ≡ Ok (o.tree, o.conclusion)) × (o.levels ≡ levels))
    (PassesLimits before levels outcome)
    (λ o ok. record {
      lines_fit = grind (arith, nat_tests, within_limit);
      levels_fit = grind (arith, nat_tests, flat);
      same_levels = ok.1;
      prepared_so = ok.0;
    })
    (concluded_ok l.number levels l.stated outcome)))

entered_keeps : (s : Schema) (at : ℕ) (state : CheckerStateValue) (l : Line) → IsCheckerState s state
    → IfOk (enter_line s at state l) (IsCheckerState s)
unfolding enter_line
entered_keeps s at state l is =
    let os = state.unused in
    let all = prepare_line s os l.stated l.body >>= λ p. within_limits (length os) l p.levels p.outcome
    >>= λ o. Ok (add_line at state.lines p.unused o) in
    cond_both (l.number == length os + 1) all (Err wrong_number) (λ r. IfOk r (IsCheckerState s))
    (λ numbered. bind_each (IsCheckerState s) (prepare_line s os l.stated l.body) _
    (λ p found. bind_each (IsCheckerState s) (within_limits (length os) l p.levels p.outcome) _
    (λ o ends.
    let prep = prepared_is s os l.stated l.body p is.stand found in
    let at_end = ok_at (PassesLimits (length os) p.levels p.outcome)
    (within_limits (length os) l p.levels p.outcome) o ends (within_limits_ok (length os) l p.levels p.outcome) in
    let deep : depth o.tree ≡ o.levels = prep.levels o.tree o.conclusion at_end.prepared_so ∙ sym at_end.same_levels in
    let longer : length (p.unused ++ Some o ∷ []) ≡ length p.unused + 1 = length-append p.unused (Some o ∷ []) in
    let stands : ProvesItsConclusion s o = record {
      proves = prep.proves o.tree o.conclusion at_end.prepared_so;
      levels = deep;
      levels_fit = omega (arith, at_end.same_levels, at_end.levels_fit);
    } in
    record {
      stand = AllStand-push s p.unused o prep.stand stands;
      count = omega (arith, all_nodes-push p.unused o, prep.counted o.tree o.conclusion at_end.prepared_so, longer, prep.same_length, is.count);
      lines_fit = omega (arith, longer, prep.same_length, at_end.lines_fit);
    })))
    (λ other. tt)

read_as_keeps : (k : LineKind) (s : Schema) (fresh : Bool) (number : ℕ) (state : CheckerStateValue) (text : List ℕ)
    → IsCheckerState s state → IfOk (read_as k s fresh number state text) (λ next. IsCheckerState s next.1)
read_as_keeps Blank s fresh number state text is = is
read_as_keeps Opening s fresh number state text is = is
read_as_keeps Certificate s fresh number state text is =
    bind_each (λ next. IsCheckerState s next.1)
    (in_line (certificate_line (names_of s) (rest_from number 1 (lex (mode.numbered (naming_of s)) text)))) _
    (λ l read. bind_each (λ next. IsCheckerState s next.1) (enter_line s number state l) _
    (λ next enter. ok_at (IsCheckerState s) _ next enter (entered_keeps s number state l is)))

pub read_one_keeps : (s : Schema) (fresh : Bool) (number : ℕ) (state : CheckerStateValue) (text : List ℕ) (next : Bool × CheckerStateValue) → IsCheckerState s state → read_one s fresh number state text ≡ Ok next → IsCheckerState s next.1
unfolding read_one
read_one_keeps s fresh number state text next is h =
    ok_at (λ (x : Bool × CheckerStateValue). IsCheckerState s x.1) _ next h
    (read_as_keeps (line_kind fresh (lex (mode.numbered (naming_of s)) text)) s fresh number state text is)

finished_checked : (s : Schema) (last : ℕ) (state : CheckerStateValue) (i : Option ℕ) (o : Option Opened)
    → IsCheckerState s state → root state.unused ≡ o → IfOk (finished_at last state.lines i o) (IsChecked s)
finished_checked s last state (Some i) o is e = tt
finished_checked s last state None None is e = tt
finished_checked s last state None (Some u) is e =
    let os = state.unused in
    let i = length os - 1 in
    let stands = AllStand-get s os i (Some u) is.stand e in
    let counted = all_nodes-close os i (Some u) e in
    record {
      conclusion = u.conclusion;
      proves = stands.proves;
      nodes_fit = omega (arith, counted, is.count, is.lines_fit);
      levels_fit = omega (arith, stands.levels, stands.levels_fit);
    }

pub at_line-ok : {A : Type 0} (n : ℕ) (r : Result A Diagnostic) (x : A) → at_line n r ≡ Ok x → r ≡ Ok x
at_line-ok n (Ok y) x h = cc
at_line-ok n (Err why) x h = cc

read_lines_checked : (s : Schema) (fresh : Bool) (number : ℕ) (state : CheckerStateValue) (texts : List (List ℕ))
    → IsCheckerState s state → IfOk (read_certificate_lines s fresh number state texts) (IsChecked s)
unfolding read_certificate_lines finished_certificate
read_lines_checked s fresh number state [] is =
    finished_checked s (number - 1) state (first_unused state.unused) (root state.unused) is refl
read_lines_checked s fresh number state (text ∷ texts) is =
    bind_each (IsChecked s) (at_line number (read_one s fresh number state text)) _
    (λ next read. read_lines_checked s next.0 (number + 1) next.1 texts
    (read_one_keeps s fresh number state text next is
    (at_line-ok number (read_one s fresh number state text) next read)))

-- what is read is within the limits, and proves a dependency
pub read_proof_checked : (s : Schema) (text : List ℕ) (t : Tree) → read_proof s text ≡ Ok t → IsChecked s t
unfolding read_proof
read_proof_checked s text t h =
    ok_at (IsChecked s) _ t h
    (read_lines_checked s true 1 (record { lines = []; unused = [] }) (line_texts (without_mark text))
    (record { stand = tt {0}; count = refl; lines_fit = omega arith }))

-- the last line of a checker state proves what it concludes
pub root_proves : (s : Schema) (state : CheckerStateValue) (t : Tree) (d : Dependency) → IsCheckerState s state → root_conclusion state.unused ≡ Some (t, d) → Proves (theory_in s) t d
root_proves s state t d is h = by_cases (root state.unused) refl h
  where
    by_cases : (o : Option Opened) → root state.unused ≡ o → option_map concluded_by o ≡ Some (t, d) → Proves (theory_in s) t d
    by_cases None r e = cc
    by_cases (Some u) r e =
        let stands = AllStand-get s state.unused (length state.unused - 1) (Some u) is.stand r in
        let same : concluded_by u ≡ (t, d) = cc in
        subst (λ (x : Tree × Dependency). Proves (theory_in s) x.0 x.1) same stands.proves

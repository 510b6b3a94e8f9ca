-- A line is entered by the reader's checker state exactly where nothing is wrong, and refused for its
-- first diagnostic.
use Rattle.std.proofs.Common.{◌≡◌, ◌<◌, ◌≤◌, ◌+◌, ◌==◌, ℕ, Bool, true, false, cond, List, length, Some, Result, Ok, Err, refl, sym, ◌∙◌, ap, subst, arith}
use Rattle.std.specs.Prelude.{nat_lt, nat_le}
use Rattle.std.proofs.lemmas.Bool.{true≢false}
use Rattle.std.proofs.lemmas.Bool.Decides.{nat_tests}
use Rattle.std.proofs.lemmas.List.{length_push}
use Rattle.attr_sets.specs.Attributes.{Attributes, IsSubset, below}
use Rattle.schema_model.specs.Schemas.{Schema, theory_in}
use Rattle.dep_model.specs.Dependencies.{Dependency, left_of, right_of}
use Rattle.schema_model.specs.Schemas.{universe_of, width_of}
use Rattle.derivation.specs.declared.fault.FaultKind.{FaultKind}
use Rattle.derivation.specs.declared.measures.TheConstants.{MOST_NODES, MOST_LEVELS}
use Rattle.derivation.specs.Trees.{Tree, depth}
use Rattle.derivation.specs.Conclusions.{Proves}
use Rattle.derivation.proofs.ConclusionLemmas.{Proves-one}
use Rattle.derivation.proofs.WithinLemmas.{OfAttributes, conclusion_within}
use Rattle.proof_grammar.specs.CheckerStates.{Opened, CheckerStateValue, Prepared, prepare_line, within_limits, concluded_as, add_line, enter_line}
use Rattle.proof_grammar.specs.Diagnostics.{Diagnostic, no_such_line, used_twice, wrong_number, too_many_lines, too_deep, unsound, states_other}
use Rattle.proof_grammar.specs.Lines.{Line}
use Rattle.proof_grammar.specs.Nodes.{same_dependency}
use Rattle.schema_grammar.specs.Rests.{◌>>=◌}
use Rattle.proof_grammar.specs.Spelling.{IsNode, premises_of, uses}
use Rattle.proof_grammar.specs.Wrongs.{NamesNoLine, UsesTwice, IsTooDeep, Wrong, IsFirstWrong}
use Rattle.proof_grammar.proofs.EnteredLaws.{Follows, IsEntered, used_after, premises_early}
use Rattle.proof_grammar.proofs.OneTree.{tree_of_line}
use Rattle.proof_grammar.proofs.PreparedLaws.{IsLineOfAttributes, AllEarlier, AllOnce, tree_earlier, no_names, not_twice}
use Rattle.proof_grammar.proofs.PreparedRefusals.{IsOutcome, Prepares, prepares}
use Rattle.proof_grammar.proofs.SameLemmas.{same_there, same_self}
use Rattle.proof_grammar.proofs.SlotLemmas.{slots_size, slots_push}
use Rattle.proof_grammar.proofs.WrongLemmas.{first_of, no_fault, one_of_rank}

-- ---- what passes the limits
record PassesLimits (before : ℕ) (l : Line) (p : Prepared) (o : Opened) : Type 0 where
  lines_fit : before < MOST_NODES
  levels_fit : p.levels ≤ MOST_LEVELS
  same_levels : o.levels ≡ p.levels
  concludes : p.outcome ≡ Ok (o.tree, o.conclusion)
  same : same_dependency l.stated o.conclusion ≡ true

abbrev ChecksLimits : Schema → List Line → List Tree → Line → Prepared → Result Opened Diagnostic → Type 0
ChecksLimits s lines ts l p (Ok o) = PassesLimits (length ts) l p o
ChecksLimits s lines ts l p (Err c) = IsFirstWrong s lines ts l c

checks_limits : (s : Schema) (lines : List Line) (ts : List Tree) (l : Line) (p : Prepared) → l.number ≡ length ts + 1
    → AllEarlier ts (premises_of l.body) → AllOnce (λ n. uses n lines) (premises_of l.body)
    → IsOutcome s (λ n. uses n lines) ts l p → ChecksLimits s lines ts l p (within_limits (length ts) l p.levels p.outcome)
unfolding within_limits
checks_limits s lines ts l p number earlier once is =
    by_cases (nat_le MOST_NODES (length ts)) (nat_lt MOST_LEVELS p.levels) p.outcome refl refl refl
  where
    named : NamesNoLine ts l → ⊥
    named = no_names ts l earlier

    twice : UsesTwice lines l → ⊥
    twice = not_twice lines l once

    flat : p.levels ≤ MOST_LEVELS → IsTooDeep ts l → ⊥
    flat within_limit deep = omega (arith, within_limit, is.levels deep.tree deep.is, deep.deep)

    stated : (u : Tree) (d : Dependency) (b : Bool) → length ts < MOST_NODES → p.levels ≤ MOST_LEVELS
        → p.outcome ≡ Ok (u, d) → same_dependency l.stated d ≡ b → ChecksLimits s lines ts l p
        (cond b (Ok (record { tree = u; levels = p.levels; conclusion = d })) (Err (states_other l.stated d)))
    stated u d true lines_fit levels_fit concludes same = record {
      lines_fit = lines_fit;
      levels_fit = levels_fit;
      same_levels = refl;
      concludes = concludes;
      same = same;
    }
    stated u d false lines_fit levels_fit concludes same =
        let gives = is.gives u d concludes in
        let other : l.stated ≡ d → ⊥ = λ e. true≢false (sym (same_self l.stated)
        ∙ ap (same_dependency l.stated) e ∙ same) in
        record {
          wrong = (refl, record { tree = u; is = gives.0; proves = gives.1; other = other });
          first = first_of s lines ts l 8 (omega arith) (
            number,
            named,
            twice,
            lines_fit,
            flat levels_fit,
            λ why fault. no_fault s ts l l.body u d why gives.0 gives.1 fault,
          );
        }

    by_cases : (a b : Bool) (r : Result (Tree × Dependency) FaultKind) → nat_le MOST_NODES (length ts) ≡ a
        → nat_lt MOST_LEVELS p.levels ≡ b → p.outcome ≡ r → ChecksLimits s lines ts l p
        (cond a (Err too_many_lines) (cond b (Err too_deep) (concluded_as l.number l.stated p.levels r)))
    by_cases true b r many deep concludes = record {
      wrong = grind (arith, nat_tests, many);
      first = first_of s lines ts l 5 (omega arith) (number, named, twice, tt, tt, tt);
    }
    by_cases false true r many deep concludes =
        let over : MOST_LEVELS < p.levels = grind (arith, nat_tests, deep) in
        let tree = is.deep over in
        record {
          wrong = record { tree = tree.0; is = tree.1; deep = omega (arith, over, is.levels tree.0 tree.1) };
          first = first_of s lines ts l 6 (omega arith) (number, named, twice, grind (arith, nat_tests, many), tt, tt);
        }
    by_cases false false (Err why) many deep concludes = record {
      wrong = (refl, is.fails why concludes);
      first = first_of s lines ts l 7 (omega arith) (
        number,
        named,
        twice,
        grind (arith, nat_tests, many),
        flat (grind (arith, nat_tests, deep)),
        tt,
      );
    }
    by_cases false false (Ok x) many deep concludes = stated x.0 x.1 (same_dependency l.stated x.1)
        (grind (arith, nat_tests, many)) (grind (arith, nat_tests, deep)) concludes refl

-- ---- what is entered
abbrev pub Enters : Schema → List Line → List Tree → Line → Result CheckerStateValue Diagnostic → Type 0
Enters s lines ts l (Ok next) = (t : Tree) × IsEntered s (λ n. uses n lines) ts l next t
    × AllOnce (λ n. uses n lines) (premises_of l.body)
Enters s lines ts l (Err c) = IsFirstWrong s lines ts l c

-- the checker state after one line more
Follows-push : (s : Schema) (at : ℕ) (lines : List Line) (ts : List Tree) (state : CheckerStateValue) (l : Line) (p : Prepared)
    (r : Result Opened Diagnostic) → Follows s (λ n. uses n lines) ts state → IsLineOfAttributes l
    → l.number ≡ length ts + 1 → AllOnce (λ n. uses n lines) (premises_of l.body)
    → IsOutcome s (λ n. uses n lines) ts l p → ChecksLimits s lines ts l p r
    → Enters s lines ts l (r >>= λ o. Ok (add_line at state.lines p.unused o))
Follows-push s at lines ts state l p (Err c) follows own number once is first = first
Follows-push s at lines ts state l p (Ok o) follows own number once is checks_limits =
    let t = o.tree in
    let used : ℕ → ℕ = used_after (λ n. uses n lines) l in
    let gives = is.gives t o.conclusion checks_limits.concludes in
    let levels = is.levels t gives.0 in
    let low : (x : Attributes) → IsSubset x (universe_of s) → OfAttributes x = λ x within k h.
    let inside : below (width_of s) k ≡ true = within k h in grind (arith, nat_tests, inside, s.valid.names_within_limit) in
    let within = conclusion_within (theory_in s) t o.conclusion gives.2 gives.1 in
    let same = same_there l.stated o.conclusion own.left own.right (low (left_of o.conclusion) within.0)
    (low (right_of o.conclusion) within.1) checks_limits.same in
    let later : (n : ℕ) → length ts < n → used n ≡ 0 = λ n h.
    omega (arith, follows.fresh n (omega (arith, h)), premises_early ts l l.body t n gives.0 h) in (
      t,
      record {
        node = record { number = number; tree = gives.0; states = subst (Proves (theory_in s) t) (sym same) gives.1 };
        lines_fit = checks_limits.lines_fit;
        levels_fit = omega (arith, checks_limits.levels_fit, levels);
        follows = record {
          slots = slots_push s used 0 ts p.unused t (Some o) is.slots (
            later (0 + length ts + 1) (omega arith),
            record {
              tree = refl;
              levels = checks_limits.same_levels ∙ levels;
              proves = gives.1;
              attributes = gives.2;
            },
          );
          fresh = λ n h. later n (omega (arith, h, length_push ts t));
        };
      },
      once,
    )

pub enters : (s : Schema) (at : ℕ) (lines : List Line) (ts : List Tree) (state : CheckerStateValue) (l : Line)
    → Follows s (λ n. uses n lines) ts state → IsLineOfAttributes l → Enters s lines ts l (enter_line s at state l)
unfolding enter_line
enters s at lines ts state l follows own = by_cases (l.number == length state.unused + 1) refl
  where
    size : length state.unused ≡ length ts
    size = slots_size s (λ n. uses n lines) 0 ts state.unused follows.slots

    made : l.number ≡ length ts + 1 → (r : Result Prepared Diagnostic) → Prepares s lines ts l r
        → Enters s lines ts l (r >>= λ p. within_limits (length state.unused) l p.levels p.outcome
        >>= λ o. Ok (add_line at state.lines p.unused o))
    made number (Ok p) is = Follows-push s at lines ts state l p (within_limits (length state.unused) l p.levels p.outcome) follows own
        number is.1 is.2 (subst (λ n. ChecksLimits s lines ts l p (within_limits n l p.levels p.outcome)) (sym size)
        (checks_limits s lines ts l p number is.0 is.1 is.2))
    made number (Err no_such_line) wrong =
        record { wrong = wrong; first = first_of s lines ts l 3 (omega arith) (number, tt, tt, tt, tt, tt) }
    made number (Err used_twice) wrong = record {
      wrong = wrong.1;
      first = first_of s lines ts l 4 (omega arith) (number, no_names ts l wrong.0, tt, tt, tt, tt);
    }
    made number (Err _) wrong = absurd wrong

    by_cases : (b : Bool) → (l.number == length state.unused + 1) ≡ b
        → Enters s lines ts l (cond b (prepare_line s state.unused l.stated l.body
        >>= λ p. within_limits (length state.unused) l p.levels p.outcome
        >>= λ o. Ok (add_line at state.lines p.unused o)) (Err wrong_number))
    by_cases true e = made (grind (arith, nat_tests, e, size)) (prepare_line s state.unused l.stated l.body)
        (prepares s lines ts state.unused l.number l.stated l.body follows.slots own)
    by_cases false e = record {
      wrong = λ is. grind (arith, nat_tests, e, size, is);
      first = first_of s lines ts l 2 (omega arith) (tt, tt, tt, tt, tt, tt);
    }

-- ---- where nothing is wrong, and where something is
nothing_wrong : (s : Schema) (lines : List Line) (ts : List Tree) (l : Line) (t : Tree) (c : Diagnostic) → IsNode s ts l t
    → length ts < MOST_NODES → depth t ≤ MOST_LEVELS → AllOnce (λ n. uses n lines) (premises_of l.body)
    → Wrong s lines ts l c → ⊥
nothing_wrong s lines ts l t wrong_number node within_limit flat once wrong = wrong node.number
nothing_wrong s lines ts l t no_such_line node within_limit flat once wrong =
    no_names ts l (tree_earlier ts l l.body t node.tree) wrong
nothing_wrong s lines ts l t used_twice node within_limit flat once wrong = not_twice lines l once wrong
nothing_wrong s lines ts l t too_many_lines node within_limit flat once wrong = omega (arith, wrong, within_limit)
nothing_wrong s lines ts l t too_deep node within_limit flat once wrong =
    omega (arith, wrong.deep, flat, ap depth (tree_of_line ts l l.body wrong.tree t wrong.is node.tree))
nothing_wrong s lines ts l t (unsound fault) node within_limit flat once wrong =
    no_fault s ts l l.body t l.stated fault.kind node.tree node.states wrong.1
nothing_wrong s lines ts l t (states_other stated concluded) node within_limit flat once wrong =
    let same = tree_of_line ts l l.body wrong.1.tree t wrong.1.is node.tree in
    wrong.1.other (Proves-one (theory_in s) t l.stated concluded node.states
    (subst (λ (u : Tree). Proves (theory_in s) u concluded) same wrong.1.proves))
nothing_wrong s lines ts l t _ node within_limit flat once wrong = wrong

-- a node within the limits is entered
pub entered_back : (s : Schema) (at : ℕ) (lines : List Line) (ts : List Tree) (state : CheckerStateValue) (l : Line) (t : Tree)
    → Follows s (λ n. uses n lines) ts state → IsLineOfAttributes l → IsNode s ts l t → length ts < MOST_NODES
    → depth t ≤ MOST_LEVELS → ((n : ℕ) → 0 < n → used_after (λ n. uses n lines) l n ≤ 1)
    → (next : CheckerStateValue) × (enter_line s at state l ≡ Ok next) × IsEntered s (λ n. uses n lines) ts l next t
entered_back s at lines ts state l t follows own node within_limit flat once =
    by_cases (enter_line s at state l) refl (enters s at lines ts state l follows own)
  where
    by_cases : (r : Result CheckerStateValue Diagnostic) → enter_line s at state l ≡ r → Enters s lines ts l r
        → (next : CheckerStateValue) × (enter_line s at state l ≡ Ok next) × IsEntered s (λ n. uses n lines) ts l next t
    by_cases (Ok next) e is = (
      next,
      e,
      subst (IsEntered s (λ n. uses n lines) ts l next)
          (tree_of_line ts l l.body is.0 t is.1.node.tree node.tree) is.1,
    )
    by_cases (Err c) e first = absurd (nothing_wrong s lines ts l t c node within_limit flat
        (λ n not_empty. once n (tree_earlier ts l l.body t node.tree n not_empty).0) first.wrong)

-- a line is refused for its first diagnostic
pub refused_entered : (s : Schema) (at : ℕ) (lines : List Line) (ts : List Tree) (state : CheckerStateValue) (l : Line)
    (c : Diagnostic) → Follows s (λ n. uses n lines) ts state → IsLineOfAttributes l → IsFirstWrong s lines ts l c
    → enter_line s at state l ≡ Err c
refused_entered s at lines ts state l c follows own first =
    by_cases (enter_line s at state l) (enters s at lines ts state l follows own)
  where
    by_cases : (r : Result CheckerStateValue Diagnostic) → Enters s lines ts l r → r ≡ Err c
    by_cases (Ok next) is =
        absurd (nothing_wrong s lines ts l is.0 c is.1.node is.1.lines_fit is.1.levels_fit is.2 first.wrong)
    by_cases (Err d) other = ap Err (one_of_rank s lines ts l d c
        (omega (arith, other.first c first.wrong, first.first d other.wrong)) other.wrong first.wrong)

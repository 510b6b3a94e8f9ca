-- What is left to prove of `equate_groups`: its clauses `grouped` and `apart`, what `equate` requires, and that
-- the invariant of its loop holds at first and stays, by `EquatingLemmas`.
use Rattle.std.proofs.Common.{◌≡◌, ℕ, ◌+◌, ◌<◌, Bool, true, false, List, length, get_or, slice_index, subst, refl, arith}
use Rattle.std.proofs.lemmas.List.{get_or_read}
use Rattle.attr_sets.specs.Sets.{attributes}
use Rattle.tableau_chase.specs.Equating.{AreEquated, AreApart}
use Rattle.tableau_chase.proofs.ApartLemmas.{apart_grouped, apart_leaders, unchanged}
use Rattle.tableau_chase.proofs.EquatingLemmas.{grouped_none, grouped_more, grouped_same, grouped_all}
use Rattle.tableau_chase.proofs.functional_closing.equate_groups.Goals as goal
use Rattle.tableau_chase.proofs.functional_closing.equate_groups.Goals.{In_ok-leaders, then-equate, else-equate}

pub loop-i-init : goal.loop-i-init
loop-i-init c = grouped_none (attributes c.args.lhs) (attributes c.args.rhs) c.in_ok-leaders.leaders.items c.args.rows.now

pub equate-requires-clause-over : goal.equate-requires-clause-over
equate-requires-clause-over c = c.loop-i.invariant.keeps.over c.args.width c.requires.over

pub loop-i-preserved : goal.loop-i-preserved
loop-i-preserved c =
    let i = c.loop-i.i in
    let x = attributes c.args.lhs in
    let y = attributes c.args.rhs in
    let t = c.args.rows.now in
    let leaders = c.in_ok-leaders.leaders.items in
    let are = c.in_ok-leaders.ensures.leaders in
    let low : i < length t = omega (arith, c.loop-i-test.true, c.loop-i.invariant.keeps.one_each) in
    let led : c.index.result.now ≡ get_or leaders i 0 = get_or_read leaders i c.index.result.now (omega (arith, low, are.one_each)) c.index.ensures 0 in
    let after = c.equate.new.rows in
    let equated = λ (b : Bool) (e : c.equate.result ≡ b).
    subst (λ (first : ℕ). AreEquated y first i c.loop-i.rows after b) led (subst (λ (b' : Bool). AreEquated y c.index.result.now i c.loop-i.rows after b') e c.equate.ensures.equated) in
    elim c.if-equate.branch [
      | then-equate w ↦ rw w.changed-is (grouped_more x y leaders i (i + 1) refl t c.loop-i.rows c.equate.new.rows low are c.loop-i.changed c.loop-i.invariant
          (equated true w.if-equate.true))
      | else-equate w ↦ rw w.changed-is (grouped_same x y leaders i (i + 1) refl t c.loop-i.rows c.equate.new.rows low are c.loop-i.changed c.loop-i.invariant
          (equated false w.if-equate.false))
    ]

pub returns-then-are_known_apart-clause-grouped : goal.returns-then-are_known_apart-clause-grouped
returns-then-are_known_apart-clause-grouped c =
    apart_grouped (attributes c.args.lhs) (attributes c.args.rhs) c.args.rows.now (c.are_known_apart.ensures.apart c.if-are_known_apart.true c.args.rows.now c.requires.apart)

-- where each row leads itself, no two rows agree on the left side
led_apart : (c : In_ok-leaders) → ((i : ℕ) → i < length c.in_ok-leaders.leaders.items → slice_index c.in_ok-leaders.leaders.items i ≡ i) → AreApart (attributes c.args.lhs) c.args.rows.now
led_apart c themselves = apart_leaders (attributes c.args.lhs) c.args.rows.now c.in_ok-leaders.leaders.items c.in_ok-leaders.ensures.leaders themselves

pub returns-then-lead_themselves-clause-grouped : goal.returns-then-lead_themselves-clause-grouped
returns-then-lead_themselves-clause-grouped c =
    let themselves = subst (λ (xs : List ℕ). (i : ℕ) → i < length xs → slice_index xs i ≡ i) c.deref.ensures.value (c.lead_themselves.ensures.themselves c.if-lead_themselves.true) in
    apart_grouped (attributes c.args.lhs) (attributes c.args.rhs) c.args.rows.now (led_apart (goal.at.returns-then-lead_themselves-clause-grouped c).In_ok-leaders themselves)

pub returns-then-lead_themselves-clause-apart : goal.returns-then-lead_themselves-clause-apart
returns-then-lead_themselves-clause-apart c =
    led_apart (goal.at.returns-then-lead_themselves-clause-apart c).In_ok-leaders
    (subst (λ (xs : List ℕ). (i : ℕ) → i < length xs → slice_index xs i ≡ i) c.deref.ensures.value (c.lead_themselves.ensures.themselves c.if-lead_themselves.true))

pub returns : goal.returns
returns c =
    let grouped = grouped_all (attributes c.args.lhs) (attributes c.args.rhs) c.in_ok-leaders.leaders.items c.loop-i.i c.args.rows.now c.loop-i.rows c.loop-i.changed (omega (arith, c.loop-i-test.false, c.loop-i.invariant.keeps.one_each))
    c.in_ok-leaders.ensures.leaders c.loop-i.invariant in
    record {
      grouped = grouped;
      apart = c.unless_changed.ensures.kept c.args.rows.now c.loop-i.rows c.requires.apart (unchanged (attributes c.args.lhs) (attributes c.args.rhs) c.args.rows.now c.loop-i.rows c.loop-i.changed grouped);
    }

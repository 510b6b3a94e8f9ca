-- What is left to prove of `close_functionally`: its clauses `closes` and `count`, that the
-- invariant of its loop holds at first and stays, and that its loop ends, by
-- `FunctionalClosingLemmas`.
use Rattle.std.proofs.Common.{◌+◌, ◌<◌, suc, Bool, cond, sym, subst}
use Rattle.chase_laws.proofs.EndLemmas.{symbols_in_use}
use Rattle.dep_model.specs.Deps.{dependencies_of}
use Rattle.tableau_chase.proofs.FunctionalClosingLemmas.{tableau_total, IsClosingFunctionally, functional_closing_first, functional_closing_next, functional_closing_lower, functional_closing_done}
use Rattle.tableau_chase.proofs.functional_closing.close_functionally.Goals as goal

pub loop-changed-init : goal.loop-changed-init
loop-changed-init c = functional_closing_first c.args.width (dependencies_of c.args.deps.now) c.args.rows.now c.requires.over

pub loop-changed-preserved : goal.loop-changed-preserved
loop-changed-preserved c =
    functional_closing_next c.args.width (dependencies_of c.args.deps.now) c.args.rows.now c.loop-changed.rows c.take_all_steps.new.rows c.loop-changed.changed c.in_ok-changed.changed c.loop-changed.invariant
    c.in_ok-changed.ensures.changes c.in_ok-changed.ensures.keeps c.in_ok-changed.ensures.obeyed

pub loop-changed-smaller : goal.loop-changed-smaller
loop-changed-smaller c =
    let n = c.args.width in
    let ds = dependencies_of c.args.deps.now in
    let t = c.args.rows.now in
    let m = c.loop-changed.rows in
    let s = c.take_all_steps.new.rows in
    let here = c.loop-changed-test.true in
    subst (λ (b : Bool). symbols_in_use n (suc (tableau_total t)) s + cond c.in_ok-changed.changed 1 0 < symbols_in_use n (suc (tableau_total t)) m + cond b 1 0) (sym here)
    (functional_closing_lower n ds t m s c.in_ok-changed.changed c.requires.over (subst (λ (b : Bool). IsClosingFunctionally n ds t m b) here c.loop-changed.invariant) c.in_ok-changed.ensures.changes)

pub returns : goal.returns
returns c =
    let n = c.args.width in
    let ds = dependencies_of c.args.deps.now in
    let t = c.args.rows.now in
    record {
      closes = functional_closing_done n ds t c.loop-changed.rows (subst (λ (b : Bool). IsClosingFunctionally n ds t c.loop-changed.rows b) c.loop-changed-test.false c.loop-changed.invariant);
      count = c.loop-changed.invariant.count;
    }

-- What is left to prove of `take_steps`: its clauses `changes`, `keeps` and `obeyed`, what
-- `take_steps_by` requires, and that the invariant of its loop holds at first and stays, by
-- `EquatingLemmas`.
use Rattle.std.proofs.Common.{ℕ, ◌+◌, ◌<◌, ◌≤◌, Bool, true, false, List, length, get_or, sym, subst, refl, arith}
use Rattle.std.proofs.lemmas.List.{get_or-map, length-map}
use Rattle.dep_model.specs.declared.dep.Dep.{Dep}
use Rattle.dep_model.specs.declared.dep.Dep.TheVariants.{Fd}
use Rattle.dep_model.specs.Dependencies.{Dependency}
use Rattle.dep_model.specs.Deps.{dependency_of, dependencies_of}
use Rattle.chase_laws.specs.Tableaux.{Tableau}
use Rattle.tableau_chase.specs.Equating.{AreGroupedBy}
use Rattle.tableau_chase.proofs.EquatingLemmas.{taken_none, taken_more, taken_same, taken_all}
use Rattle.tableau_chase.proofs.functional_closing.take_steps.Goals as goal
use Rattle.tableau_chase.proofs.functional_closing.take_steps.Goals.{then-branch, else-branch}

by_dep : (deps : List Dep) (k : ℕ) (d : Dep) (t s : Tableau) (changed : Bool) → k < length deps → AreGroupedBy (dependency_of (get_or deps k d)) t s changed → AreGroupedBy (get_or (dependencies_of deps) k (dependency_of d)) t s changed
by_dep deps k d t s changed low grouped = subst (λ (e : Dependency). AreGroupedBy e t s changed) (sym (get_or-map dependency_of deps k d (dependency_of d) low)) grouped

pub take_steps_by-requires-clause-over : goal.take_steps_by-requires-clause-over
take_steps_by-requires-clause-over c = c.loop-dep.invariant.taken.keeps.over c.args.width c.requires.over

pub loop-dep-init : goal.loop-dep-init
loop-dep-init c = record { taken = taken_none (dependencies_of c.args.deps.now) c.args.rows.now; apart = tt }

pub loop-dep-preserved : goal.loop-dep-preserved
loop-dep-preserved c =
    let k = c.loop-dep.dep-index in
    let deps = c.args.deps.now in
    let ds = dependencies_of deps in
    let first : Dep = Fd (record { 0 = 0 }) (record { 0 = 0 }) in
    let deps_low : k < length deps = c.loop-dep-test.true in
    let low : k < length ds = omega (arith, deps_low, length-map deps dependency_of) in
    let before = c.loop-dep.rows in
    let after = c.take_steps_by.new.rows in
    let grouped = c.in_ok-take_steps_by.ensures.grouped in
    record {
      taken = elim c.if-branch.branch [
        | then-branch w ↦ rw w.changed-is (taken_more ds k (k + 1) c.args.rows.now before after c.loop-dep.changed (dependency_of first) refl low c.loop-dep.invariant.taken
            (by_dep deps k first before after true deps_low (subst (λ (b : Bool). AreGroupedBy (dependency_of (get_or deps k first)) before after b) w.if-branch.true grouped)))
        | else-branch w ↦ rw w.changed-is (taken_same ds k (k + 1) c.args.rows.now before after c.loop-dep.changed (dependency_of first) refl low c.loop-dep.invariant.taken
            (by_dep deps k first before after false deps_low (subst (λ (b : Bool). AreGroupedBy (dependency_of (get_or deps k first)) before after b) w.if-branch.false grouped)))
      ];
      apart = c.in_ok-take_steps_by.ensures.apart;
    }

pub returns : goal.returns
returns c =
    let deps = c.args.deps.now in
    let ds = dependencies_of deps in
    let all : length ds ≤ c.loop-dep.dep-index = omega (arith, c.loop-dep-test.false, length-map deps dependency_of) in
    record {
      changes = c.loop-dep.invariant.taken.changes;
      keeps = c.loop-dep.invariant.taken.keeps;
      obeyed = taken_all ds c.loop-dep.dep-index c.args.rows.now c.loop-dep.rows c.loop-dep.changed all c.loop-dep.invariant.taken;
    }

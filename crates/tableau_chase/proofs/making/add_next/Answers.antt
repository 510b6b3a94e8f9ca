-- What is left to prove of `add_next`: its clauses `too_many` and `next` and that the invariant of
-- its loop holds at first and stays, by `MakingLemmas` and `PoolLemmas`.
use Rattle.std.proofs.Common.{◌≡◌, ℕ, ◌+◌, ◌<◌, ◌≤◌, List, ◌∙◌, length, take, get_or, sym, ap, subst, refl, arith}
use Rattle.std.proofs.lemmas.List.{get_or-map, length-map, take_at}
use Rattle.attr_sets.specs.Attributes.{below}
use Rattle.dep_model.specs.declared.dep.Dep.{Dep}
use Rattle.dep_model.specs.declared.dep.Dep.TheVariants.{Fd}
use Rattle.dep_model.specs.Dependencies.{Dependency, fd}
use Rattle.dep_model.specs.Deps.{dependency_of, dependencies_of}
use Rattle.chase_laws.specs.Tableaux.{Tableau}
use Rattle.chase_laws.specs.Rounds.{IsMadeOf}
use Rattle.tableau_chase.specs.Pools.{Extends}
use Rattle.tableau_chase.specs.Making.{IsMadeFrom, AddsAll, Overflows}
use Rattle.tableau_chase.proofs.PoolLemmas.{adds_none, adds_join, adds_like, overflow_after}
use Rattle.tableau_chase.proofs.MakingLemmas.{IsMadeUpTo, made_none, made_old, made_new, made_cases, made_all, made_each}
use Rattle.tableau_chase.proofs.making.add_next.Goals as goal
use Rattle.tableau_chase.proofs.making.add_next.Goals.{After-add_made}

-- the first rows of a longer tableau
front : (t m : Tableau) (count : ℕ) → count ≡ length t → Extends t m → take count m ≡ t
front t m count is extends = ap (λ (u : Tableau). take count u) extends.1 ∙ take_at t extends.0 count (sym is)

by_dep : (deps : List Dep) (k : ℕ) (d : Dep) → k < length deps → dependency_of (get_or deps k d) ≡ get_or (dependencies_of deps) k (fd (below 0) (below 0))
by_dep deps k d low = sym (get_or-map dependency_of deps k d (fd (below 0) (below 0)) low)

-- what holds of the next dependency and the rows that stood at first
next_made : (P : Dependency → Tableau → Type 0) (c : After-add_made)
    → P (dependency_of (get_or c.args.deps.now c.loop-dep.dep-index (Fd (record { 0 = 0 }) (record { 0 = 0 })))) (take c.len-count.result c.loop-dep.pool.rows.items)
    → P (get_or (dependencies_of c.args.deps.now) c.loop-dep.dep-index (fd (below 0) (below 0))) c.args.pool.now.rows.items
next_made P c holds =
    let d : Dep = Fd (record { 0 = 0 }) (record { 0 = 0 }) in
    subst (λ (e : Dependency). P e c.args.pool.now.rows.items) (by_dep c.args.deps.now c.loop-dep.dep-index d c.loop-dep-test.true)
    (subst (λ (u : Tableau). P (dependency_of (get_or c.args.deps.now c.loop-dep.dep-index d)) u)
    (front c.args.pool.now.rows.items c.loop-dep.pool.rows.items c.len-count.result (omega (arith, c.len-count.ensures)) c.loop-dep.invariant.adds.extends) holds)

pub loop-dep-init : goal.loop-dep-init
loop-dep-init c =
    let n = c.args.width in
    let ds = dependencies_of c.args.deps.now in
    let t = c.args.pool.now.rows.items in
    record { pool = c.requires.pool; adds = adds_none (IsMadeUpTo n ds t 0) t (made_none n ds t) }

pub loop-dep-preserved : goal.loop-dep-preserved
loop-dep-preserved c =
    let n = c.args.width in
    let ds = dependencies_of c.args.deps.now in
    let t = c.args.pool.now.rows.items in
    let m = c.loop-dep.pool.rows.items in
    let s = c.add_made.new.pool.rows.items in
    let k = c.loop-dep.dep-index in
    let low_ds : k < length ds = omega (arith, c.loop-dep-test.true, length-map c.args.deps.now dependency_of) in
    record {
      pool = c.in-Ok.ensures.pool;
      adds = adds_join (IsMadeUpTo n ds t k) (IsMadeFrom n (get_or ds k (fd (below 0) (below 0))) t) (IsMadeUpTo n ds t (k + 1)) t m s
          (made_old n ds t k (k + 1) refl) (made_new n ds t k (k + 1) refl low_ds) (made_cases n ds t k (k + 1) refl) c.loop-dep.invariant.adds
          (next_made (λ (e : Dependency) (u : Tableau). AddsAll (IsMadeFrom n e u) m s) (goal.at.loop-dep-preserved c).After-add_made c.in-Ok.ensures.made);
    }

pub returns-in-Err-clause-too_many : goal.returns-in-Err-clause-too_many
returns-in-Err-clause-too_many c e =
    let n = c.args.width in
    let ds = dependencies_of c.args.deps.now in
    let t = c.args.pool.now.rows.items in
    let m = c.loop-dep.pool.rows.items in
    let k = c.loop-dep.dep-index in
    let low_ds : k < length ds = omega (arith, c.loop-dep-test.true, length-map c.args.deps.now dependency_of) in
    overflow_after (IsMadeUpTo n ds t k) (IsMadeFrom n (get_or ds k (fd (below 0) (below 0))) t) (IsMadeOf n ds t) c.args.limit t m
    (made_all n ds t k) (λ p h. made_all n ds t (k + 1) p (made_new n ds t k (k + 1) refl low_ds p h)) c.loop-dep.invariant.adds
    (next_made (λ (f : Dependency) (u : Tableau). Overflows (IsMadeFrom n f u) c.args.limit m) (goal.at.returns-in-Err-clause-too_many c).After-add_made (c.in-Err.ensures.too_many e))

pub returns-clause-next : goal.returns-clause-next
returns-clause-next c =
    let n = c.args.width in
    let ds = dependencies_of c.args.deps.now in
    let t = c.args.pool.now.rows.items in
    let all : length ds ≤ c.loop-dep.dep-index = omega (arith, c.loop-dep-test.false, length-map c.args.deps.now dependency_of) in
    adds_like (IsMadeUpTo n ds t c.loop-dep.dep-index) (IsMadeOf n ds t) t c.loop-dep.pool.rows.items (made_all n ds t c.loop-dep.dep-index) (made_each n ds t c.loop-dep.dep-index all) c.loop-dep.invariant.adds

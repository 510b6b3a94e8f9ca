-- What is left to prove of `number_given`: that no dependency is the goal.
use Rattle.std.proofs.Common.{◌≡◌, ◌<◌, ◌≤◌, ◌∙◌, sym, subst, take_all, List, get_or, length}
use Rattle.std.specs.Prelude.{All}
use Rattle.std.proofs.lemmas.Bool.{false≢true}
use Rattle.std.proofs.lemmas.List.Elements.{All-more, All-contains}
use Rattle.dep_model.specs.declared.dep.Dep.{Dep}
use Rattle.dep_model.specs.declared.dep.Dep.TheVariants.{Fd}
use Rattle.dep_model.specs.Deps.{dependency_of}
use Rattle.dep_model.specs.Theories.{deps_of}
use Rattle.dep_model.proofs.ListLemmas.{map-member}
use Rattle.short_derivations.proofs.given.number_given.Goals as goal

pub loop-k-preserved : goal.loop-k-preserved
loop-k-preserved c =
    let P : Dep → Type 0 = λ d. dependency_of d ≡ dependency_of c.args.goal → ⊥ in
    let e = c.deps-dep-items.ensures.deps in
    let i = c.loop-k.k in
    let first : Dep = Fd (record { 0 = 0 }) (record { 0 = 0 }) in
    All-more P (deps_of c.args.theory.now) i first (subst (λ (ds : List Dep). i < length ds) e c.loop-k-test.true) c.loop-k.invariant
    (subst (λ (ds : List Dep). P (get_or ds i first)) e (λ same. false≢true (sym c.if-same_dep.false ∙ c.same_dep.ensures.same.1 same)))

pub returns-clause-none : goal.returns-clause-none
returns-clause-none c none contains =
    let P : Dep → Type 0 = λ d. dependency_of d ≡ dependency_of c.args.goal → ⊥ in
    let deps = deps_of c.args.theory.now in
    let i = c.loop-k.k in
    let passed : length deps ≤ i = subst (λ (ds : List Dep). length ds ≤ i) c.deps-dep-items.ensures.deps c.loop-k-test.false in
    let m = map-member dependency_of deps (dependency_of c.args.goal) contains in
    All-contains P deps m.0 (subst (All P) (take_all i deps passed) c.loop-k.invariant) m.1 m.2

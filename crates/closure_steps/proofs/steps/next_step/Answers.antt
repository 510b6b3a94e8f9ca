-- What is left to prove of `next_step`: its clauses `none` and `within`, and that a round of its loop
-- keeps the invariant.
use Rattle.std.proofs.Common.{◌≡◌, ℕ, ◌<◌, ◌≤◌, List, length, get_or, take_all, sym, ap, subst, arith}
use Rattle.std.proofs.lemmas.Bool.{false≢true}
use Rattle.std.proofs.lemmas.List.{length-map, get_or-map}
use Rattle.std.proofs.lemmas.List.Elements.{All-more}
use Rattle.std.specs.Prelude.{All}
use Rattle.attr_sets.specs.Attributes.{Attributes}
use Rattle.attr_sets.specs.Sets.{attributes}
use Rattle.dep_model.specs.declared.dep.Dep.{Dep}
use Rattle.dep_model.specs.declared.dep.Dep.TheVariants.{Fd}
use Rattle.dep_model.specs.Dependencies.{Dependency}
use Rattle.dep_model.specs.Deps.{dependency_of, dependencies_of, IsDepWithin}
use Rattle.dep_model.specs.Theories.{theory_of, deps_of, universe_of}
use Rattle.closure_steps.specs.Steps.{Adds}
use Rattle.closure_steps.proofs.steps.next_step.Goals as goal

abbrev first : Dep
first = Fd (record { 0 = 0 }) (record { 0 = 0 })

-- the dependency that is looked at is the one of the list
looked_at : (items ds : List Dep) (k : ℕ) → items ≡ ds → k < length items → dependency_of (get_or items k first) ≡ get_or (dependencies_of ds) k (dependency_of first)
looked_at items ds k same short =
    subst (λ (es : List Dep). dependency_of (get_or items k first) ≡ get_or (dependencies_of es) k (dependency_of first)) same
    (sym (get_or-map dependency_of items k first (dependency_of first) short))

short_of : (items ds : List Dep) (k : ℕ) → items ≡ ds → k < length items → k < length (dependencies_of ds)
short_of items ds k same short = omega (arith, short, ap (λ (es : List Dep). length es) same, length-map ds dependency_of)

pub loop-k-preserved : goal.loop-k-preserved
loop-k-preserved c =
    let s = c.args.theory.now in
    let ds = theory_of s in
    let k = c.loop-k.k in
    let items = c.deps-dep-items.result.now in
    let same = c.deps-dep-items.ensures.deps in
    let short = short_of items (deps_of s) k same c.loop-k-test.true in
    let nothing = c.added_by-added.ensures.none (c.is_empty.ensures.empty.0 c.if-not-is_empty.false) in
    All-more (λ (d : Dependency). Adds (attributes c.args.closed) d → ⊥) ds k (dependency_of first) short c.loop-k.invariant
    (subst (λ (d : Dependency). Adds (attributes c.args.closed) d → ⊥) (looked_at items (deps_of s) k same c.loop-k-test.true) nothing)

pub returns-then-not-is_empty-clause-within : goal.returns-then-not-is_empty-clause-within
returns-then-not-is_empty-clause-within c = λ a member.
    let s = c.args.theory.now in
    let k = c.loop-k.k in
    let items = c.deps-dep-items.result.now in
    let same = c.deps-dep-items.ensures.deps in
    let added = c.added_by-added.ensures.added (λ empty. false≢true (c.if-not-is_empty.ensures.empty.1 empty)) in
    let short : k < length (deps_of s) = subst (λ (es : List Dep). k < length es) same c.loop-k-test.true in
    let within : IsDepWithin (universe_of s) (get_or items k first) =
    subst (λ (es : List Dep). IsDepWithin (universe_of s) (get_or es k first)) (sym same) (s.valid.deps_within k first short) in
    within.1 a (grind (arith, member, ap (λ (x : Attributes). x a) added))

pub returns-clause-none : goal.returns-clause-none
returns-clause-none c =
    let s = c.args.theory.now in
    let ds = theory_of s in
    let past : length ds ≤ c.loop-k.k = omega (arith, c.loop-k-test.false, ap (λ (es : List Dep). length es) c.deps-dep-items.ensures.deps, length-map (deps_of s) dependency_of) in
    λ _. subst (λ (es : List Dependency). All (λ d. Adds (attributes c.args.closed) d → ⊥) es) (take_all c.loop-k.k ds past) c.loop-k.invariant

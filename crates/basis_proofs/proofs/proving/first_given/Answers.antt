-- What is left to prove of `first_given`: its clauses `first` and `none` and that a round of its
-- loop keeps the invariant, by `given_first` and `given_none`.
use Rattle.std.proofs.Common.{◌≡◌, ◌<◌, ◌≤◌, List, get_or, length, take_all, subst, sym, ◌∙◌, refl}
use Rattle.std.specs.Prelude.{All}
use Rattle.std.proofs.lemmas.Bool.{true≢false}
use Rattle.std.proofs.lemmas.List.Elements.{All-more}
use Rattle.attr_sets.specs.Sets.{attributes}
use Rattle.dep_model.specs.declared.dep.Dep.{Dep}
use Rattle.dep_model.specs.declared.dep.Dep.TheVariants.{Fd}
use Rattle.dep_model.specs.Dependencies.{mvd}
use Rattle.dep_model.specs.Deps.{dependency_of}
use Rattle.dep_model.specs.Theories.{deps_of}
use Rattle.basis_proofs.proofs.ProvingLemmas.{given_first, given_none}
use Rattle.basis_proofs.proofs.proving.first_given.Goals as goal

abbrev zero : Dep
zero = Fd (record { 0 = 0 }) (record { 0 = 0 })

pub returns-then-is_mvd-clause-first : goal.returns-then-is_mvd-clause-first
returns-then-is_mvd-clause-first c =
    let i = c.loop-number.number in
    let e = c.deps-dep-items.ensures.deps in
    let P : List Dep → Type 0 = λ ds. dependency_of (get_or ds i zero) ≡ mvd (attributes c.args.lhs) (attributes c.args.rhs) in
    given_first c.args.theory.now (attributes c.args.lhs) (attributes c.args.rhs) i zero (subst (λ (ds : List Dep). i < length ds) e c.loop-number-test.true) c.loop-number.invariant
    (subst P e (c.if-is_mvd.ensures.is_mvd.0 refl))

pub loop-number-preserved : goal.loop-number-preserved
loop-number-preserved c =
    let i = c.loop-number.number in
    let e = c.deps-dep-items.ensures.deps in
    let d = mvd (attributes c.args.lhs) (attributes c.args.rhs) in
    let P : List Dep → Type 0 = λ ds. dependency_of (get_or ds i zero) ≡ d → ⊥ in
    All-more (λ (f : Dep). dependency_of f ≡ d → ⊥) (deps_of c.args.theory.now) i zero
    (subst (λ (ds : List Dep). i < length ds) e c.loop-number-test.true) c.loop-number.invariant
    (subst P e (λ is. true≢false (sym (c.is_mvd.ensures.is_mvd.1 is) ∙ c.if-is_mvd.false)))

pub returns-clause-none : goal.returns-clause-none
returns-clause-none c _ =
    let d = mvd (attributes c.args.lhs) (attributes c.args.rhs) in
    let deps = deps_of c.args.theory.now in
    let i = c.loop-number.number in
    let passed : length deps ≤ i = subst (λ (ds : List Dep). length ds ≤ i) c.deps-dep-items.ensures.deps c.loop-number-test.false in
    given_none c.args.theory.now (attributes c.args.lhs) (attributes c.args.rhs) (subst (All (λ (f : Dep). dependency_of f ≡ d → ⊥)) (take_all i deps passed) c.loop-number.invariant)

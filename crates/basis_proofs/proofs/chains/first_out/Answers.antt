-- What is left to prove of `first_out`: its clauses `first` and `none` and that a round of its loop
-- keeps the invariant, by `lead_first`.
use Rattle.std.proofs.Common.{◌<◌, ◌≤◌, List, get_or, length, take_all, subst, refl}
use Rattle.std.specs.Prelude.{All}
use Rattle.std.proofs.lemmas.List.Elements.{All-more}
use Rattle.attr_sets.specs.Attributes.{IsSubset}
use Rattle.attr_sets.specs.Sets.{attributes}
use Rattle.dep_model.specs.declared.dep.Dep.{Dep}
use Rattle.dep_model.specs.declared.dep.Dep.TheVariants.{Fd}
use Rattle.dep_model.specs.Dependencies.{Dependency, left_of, right_of}
use Rattle.dep_model.specs.Deps.{dependency_of}
use Rattle.dep_model.specs.Theories.{deps_of}
use Rattle.dep_model.proofs.DepLemmas.{IfFd, functional_all-from}
use Rattle.basis_proofs.specs.Leads.{IsRightSideOut}
use Rattle.basis_proofs.proofs.LeadLemmas.{lead_first}
use Rattle.basis_proofs.proofs.chains.first_out.Goals as goal

pub returns-in-Some-clause-first : goal.returns-in-Some-clause-first
returns-in-Some-clause-first c =
    let i = c.loop-number.number in
    let e = c.deps-dep-items.ensures.deps in
    let first : Dep = Fd (record { 0 = 0 }) (record { 0 = 0 }) in
    let P : List Dep → Type 0 = λ ds. IsRightSideOut (attributes c.args.closed) (dependency_of (get_or ds i first)) (attributes c.in-Some.rhs) in
    lead_first c.args.theory.now (attributes c.args.closed) i first (attributes c.in-Some.rhs) (subst (λ (ds : List Dep). i < length ds) e c.loop-number-test.true) c.loop-number.invariant
    (subst P e c.in-Some.ensures.right_side)

pub loop-number-preserved : goal.loop-number-preserved
loop-number-preserved c =
    let i = c.loop-number.number in
    let e = c.deps-dep-items.ensures.deps in
    let first : Dep = Fd (record { 0 = 0 }) (record { 0 = 0 }) in
    let P : List Dep → Type 0 = λ ds. IfFd (λ x y. IsSubset x (attributes c.args.closed) → IsSubset y (attributes c.args.closed)) (get_or ds i first) in
    All-more (IfFd (λ x y. IsSubset x (attributes c.args.closed) → IsSubset y (attributes c.args.closed))) (deps_of c.args.theory.now) i first
    (subst (λ (ds : List Dep). i < length ds) e c.loop-number-test.true) c.loop-number.invariant (subst P e (c.in_default.ensures.none refl))

pub returns-clause-none : goal.returns-clause-none
returns-clause-none c _ =
    let closed = attributes c.args.closed in
    let deps = deps_of c.args.theory.now in
    let i = c.loop-number.number in
    let passed : length deps ≤ i = subst (λ (ds : List Dep). length ds ≤ i) c.deps-dep-items.ensures.deps c.loop-number-test.false in
    functional_all-from (λ (d : Dependency). IsSubset (left_of d) closed → IsSubset (right_of d) closed) deps
    (subst (All (IfFd (λ x y. IsSubset x closed → IsSubset y closed))) (take_all i deps passed) c.loop-number.invariant)

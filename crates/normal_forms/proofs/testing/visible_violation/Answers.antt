-- What is left to prove of `visible_violation`: its clauses `none` and `visible` and that the
-- invariant of its loop holds at first and stays, by `FormLemmas`.
use Rattle.std.proofs.Common.{◌≡◌, ℕ, ◌<◌, ◌≤◌, false, List, length, get_or, take_all, refl, sym, ap, subst, ◌∙◌, arith}
use Rattle.std.proofs.lemmas.Bool.{true≢false, false≢true}
use Rattle.std.proofs.lemmas.List.{length-map}
use Rattle.std.proofs.lemmas.List.Elements.{All-more}
use Rattle.std.proofs.lemmas.Option.{slice_get-get_or}
use Rattle.std.specs.Prelude.{All}
use Rattle.attr_sets.specs.Attributes.{Attributes, IsSubset}
use Rattle.attr_sets.specs.Sets.{attributes}
use Rattle.dep_model.specs.declared.dep.Dep.{Dep}
use Rattle.dep_model.specs.declared.dep.Dep.TheVariants.{Fd}
use Rattle.dep_model.specs.Dependencies.{Dependency, left_of}
use Rattle.dep_model.specs.Deps.{dependency_of, dependencies_of}
use Rattle.dep_model.specs.Theories.{width_of, theory_of, deps_of}
use Rattle.normal_forms.specs.Chosen.{IsNoViolation}
use Rattle.normal_forms.specs.Breaking.{Breaks}
use Rattle.normal_forms.specs.Violations.{Violates}
use Rattle.normal_forms.proofs.FormLemmas.{given_left, no_violation_outside, no_violation_whole}
use Rattle.normal_forms.proofs.testing.visible_violation.Goals.{else-is_subset-via-then-is_subset+else-breaks, else-is_subset-via-else-is_subset}
use Rattle.normal_forms.proofs.testing.visible_violation.Goals as goal

abbrev first : Dep
first = Fd (record { 0 = 0 }) (record { 0 = 0 })

-- the left side that is looked at is that of the given dependency
looked_at : (items ds : List Dep) (i : ℕ) (x : Attributes) → items ≡ ds → i < length items → x ≡ left_of (dependency_of (get_or items i first)) → left_of (get_or (dependencies_of ds) i (dependency_of first)) ≡ x
looked_at items ds i x same short is =
    subst (λ (es : List Dep). left_of (get_or (dependencies_of es) i (dependency_of first)) ≡ x) same (given_left items i first x short is)

given_short : (items ds : List Dep) (i : ℕ) → items ≡ ds → i < length items → i < length (dependencies_of ds)
given_short items ds i same short = omega (arith, short, ap (λ (es : List Dep). length es) same, length-map ds dependency_of)

pub loop-dep-init : goal.loop-dep-init
loop-dep-init c = λ k d l. absurd (omega arith)

pub returns-then-breaks-clause-none : goal.returns-then-breaks-clause-none
returns-then-breaks-clause-none c =
    let s = c.args.theory.now in
    let n = width_of s in
    let ds = theory_of s in
    let i = c.loop-dep.dep-index in
    let short = given_short c.deps-dep-items.result.now (deps_of s) i c.deps-dep-items.ensures.deps c.loop-dep-test.true in
    let left = looked_at c.deps-dep-items.result.now (deps_of s) i (attributes c.sides.result.0) c.deps-dep-items.ensures.deps c.loop-dep-test.true c.sides.ensures.left in (
      (λ e. absurd (true≢false e)),
      (λ no_violation. absurd (no_violation i (dependency_of first) short (attributes c.right_side-rhs.result)
          (subst (λ (x : Attributes). Violates n ds c.args.form (attributes c.args.scheme) x (attributes c.right_side-rhs.result)) (sym left) c.right_side-rhs.ensures.violates))),
    )

pub returns-then-breaks-clause-visible : goal.returns-then-breaks-clause-visible
returns-then-breaks-clause-visible c =
    let s = c.args.theory.now in
    let ds = theory_of s in
    let i = c.loop-dep.dep-index in
    let d = dependency_of first in
    let short = given_short c.deps-dep-items.result.now (deps_of s) i c.deps-dep-items.ensures.deps c.loop-dep-test.true in
    let left = looked_at c.deps-dep-items.result.now (deps_of s) i (attributes c.sides.result.0) c.deps-dep-items.ensures.deps c.loop-dep-test.true c.sides.ensures.left in
    record {
      position = i;
      given = get_or ds i d;
      stands = slice_get-get_or ds i d short;
      left = sym left;
      violates = c.right_side-rhs.ensures.violates;
      first = c.loop-dep.invariant;
    }

pub loop-dep-preserved : goal.loop-dep-preserved
loop-dep-preserved c =
    let s = c.args.theory.now in
    let n = width_of s in
    let ds = theory_of s in
    let scheme = attributes c.args.scheme in
    let form = c.args.form in
    let i = c.loop-dep.dep-index in
    let d = dependency_of first in
    let x = attributes c.sides.result.0 in
    let short = given_short c.deps-dep-items.result.now (deps_of s) i c.deps-dep-items.ensures.deps c.loop-dep-test.true in
    let left = looked_at c.deps-dep-items.result.now (deps_of s) i x c.deps-dep-items.ensures.deps c.loop-dep-test.true c.sides.ensures.left in
    let no_violation : IsNoViolation n ds form scheme (get_or ds i d) = elim c.else-is_subset.branch [
      | else-is_subset-via-then-is_subset+else-breaks w ↦ no_violation_whole n ds form scheme (get_or ds i d) c.requires.scheme c.requires.form
          (λ breaks. false≢true (sym w.if-breaks.false ∙ w.breaks.ensures.breaks.1 (subst (λ (v : Attributes). Breaks n ds form scheme v) left breaks)))
      | else-is_subset-via-else-is_subset w ↦ no_violation_outside n ds form scheme (get_or ds i d) c.requires.scheme
          (λ inside. false≢true (sym w.if-is_subset.false ∙ c.is_subset.ensures.subset.1 (subst (λ (v : Attributes). IsSubset v scheme) left inside)))
    ] in
    All-more (IsNoViolation n ds form scheme) ds i d short c.loop-dep.invariant no_violation

pub returns-clause-none : goal.returns-clause-none
returns-clause-none c =
    let s = c.args.theory.now in
    let ds = theory_of s in
    let past : length ds ≤ c.loop-dep.dep-index = omega (arith, c.loop-dep-test.false, ap (λ (es : List Dep). length es) c.deps-dep-items.ensures.deps, length-map (deps_of s) dependency_of) in (
      (λ _. subst (λ (es : List Dependency). All (IsNoViolation (width_of s) ds c.args.form (attributes c.args.scheme)) es) (take_all c.loop-dep.dep-index ds past) c.loop-dep.invariant),
      (λ _. refl),
    )

pub breaks-requires-clause-part : goal.breaks-requires-clause-part
breaks-requires-clause-part c = c.no_part.ensures.known false c.args.theory.now

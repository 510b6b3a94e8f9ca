-- What is left to prove of `searched_attributes`: what it answers, case by case, by `all_enough`
-- and `functional_enough`.
use Rattle.std.proofs.Common.{◌≡◌, ◌↔◌, ℕ, true, List, sym, ◌∙◌, subst, arith}
use Rattle.attr_sets.specs.Attributes.{below, IsSubset}
use Rattle.attr_sets.specs.Sets.{attributes}
use Rattle.dep_model.specs.declared.dep.Dep.{Dep}
use Rattle.dep_model.specs.Dependencies.{Dependency, left_of, IsWithin}
use Rattle.dep_model.specs.Deps.{dependencies_of}
use Rattle.dep_model.specs.Theories.{width_of, theory_of, deps_of}
use Rattle.dep_model.proofs.DepLemmas.{dependencies_all-to, dependencies_all-from}
use Rattle.fd_closure.specs.LeftSides.{left_sides, InLeftSide}
use Rattle.fd_closure.proofs.LeftSideLemmas.{left_sides_each}
use Rattle.normal_forms.specs.Adding.{AddOnlyThemselves}
use Rattle.attr_sets.proofs.AttributesLemmas.{same_at}
use Rattle.normal_forms.proofs.BreakLemmas.{all_enough, functional_enough}
use Rattle.normal_forms.proofs.narrowing.searched_attributes.Goals as goal

pub returns-then-functional : goal.returns-then-functional
returns-then-functional c =
    let s = c.args.theory.now in
    let n = width_of s in
    let scheme = attributes c.args.scheme in
    let whole = attributes c.functionally_searched_attributes.result in
    let same = c.requires.functional c.if-functional.true in
    let added = subst (λ (ds : List Dependency). AddOnlyThemselves n ds scheme whole) same c.functionally_searched_attributes.ensures.added in
    record {
      within = c.functionally_searched_attributes.ensures.within;
      sides = c.functionally_searched_attributes.ensures.sides;
      enough = functional_enough n (theory_of s) c.args.form scheme whole c.requires.form (dependencies_all-from (IsWithin (below n)) (deps_of s) s.valid.deps_within) same c.requires.scheme added;
    }

pub returns-else-functional : goal.returns-else-functional
returns-else-functional c =
    let s = c.args.theory.now in
    let n = width_of s in
    let scheme = attributes c.args.scheme in
    let lefts = attributes c.left_attributes.result in
    let members = subst (λ (es : List Dep). (a : ℕ) → (lefts a ≡ true) ↔ InLeftSide (dependencies_of es) a) c.deps.ensures.deps c.left_attributes.ensures.members in
    let all_sides = subst (λ (es : List Dep). lefts ≡ left_sides (dependencies_of es)) c.deps.ensures.deps c.left_attributes.ensures.all_sides in
    let each = dependencies_all-to (λ (d : Dependency). IsSubset (left_of d) lefts) (deps_of s) (left_sides_each (theory_of s) lefts (λ a h. (members a).1 h)) in
    record {
      within = λ k m. grind (arith, same_at c.intersection.ensures.members k, m);
      sides = λ k m. sym (same_at all_sides k) ∙ grind (arith, same_at c.intersection.ensures.members k, m);
      enough = all_enough n (deps_of s) c.args.form scheme lefts (attributes c.intersection.result) c.requires.form s.valid.within_limit s.valid.deps_within c.requires.scheme each c.intersection.ensures.members;
    }

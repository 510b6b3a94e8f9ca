-- One left side after the other is added.
use Rattle.std.proofs.Common.{◌≡◌, ◌↔◌, ℕ, true, List, take, take_all, get_or, sym, ap, subst, ◌∙◌}
use Rattle.std.proofs.lemmas.List.{map_more}
use Rattle.attr_sets.specs.Attributes.{Attributes, union}
use Rattle.attr_sets.specs.Sets.{attributes}
use Rattle.dep_model.specs.declared.dep.Dep.{Dep}
use Rattle.dep_model.specs.declared.dep.Dep.TheVariants.{Fd}
use Rattle.dep_model.specs.Deps.{dependency_of, dependencies_of}
use Rattle.fd_closure.specs.LeftSides.{left_sides, InLeftSide}
use Rattle.fd_closure.proofs.LeftSideLemmas.{left_sides_push, left_sides_in}
use Rattle.fd_closure.proofs.left_sides.left_attributes.Goals as goal

pub loop-dep-init : goal.loop-dep-init
loop-dep-init c = c.empty-found.ensures.members

pub loop-dep-preserved : goal.loop-dep-preserved
loop-dep-preserved c =
    let first : Dep = Fd (record { 0 = 0 }) (record { 0 = 0 }) in
    let i = c.loop-dep.dep-index in
    let deps = c.args.deps.now in
    let e = dependency_of (get_or deps i first) in
    c.union-found.ensures.members ∙ ap (λ (x : Attributes). union x (attributes c.sides.result.0)) c.loop-dep.invariant
    ∙ ap (union (left_sides (dependencies_of (take i deps)))) c.sides.ensures.left
    ∙ sym (left_sides_push (dependencies_of (take i deps)) e)
    ∙ ap left_sides (sym (map_more dependency_of deps i first c.loop-dep-test.true))

pub returns : goal.returns
returns c =
    let all = subst (λ (ds : List Dep). attributes c.loop-dep.found ≡ left_sides (dependencies_of ds)) (take_all c.loop-dep.dep-index c.args.deps.now c.loop-dep-test.false) c.loop-dep.invariant in
    record {
      all_sides = all;
      members = subst (λ (x : Attributes). (a : ℕ) → (x a ≡ true) ↔ InLeftSide (dependencies_of c.args.deps.now) a) (sym all) (left_sides_in (dependencies_of c.args.deps.now));
    }

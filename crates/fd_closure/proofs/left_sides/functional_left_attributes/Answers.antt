-- One functional dependency after the other adds its left side where that lies within the reach.
use Rattle.std.proofs.Common.{◌≡◌, ◌↔◌, ℕ, true, List, take, take_all, get_or, sym, subst, arith}
use Rattle.std.proofs.lemmas.List.{map_more}
use Rattle.attr_sets.specs.Sets.{attributes}
use Rattle.attr_sets.proofs.AttributesLemmas.{same_at}
use Rattle.dep_model.specs.declared.dep.Dep.{Dep}
use Rattle.dep_model.specs.declared.dep.Dep.TheVariants.{Fd}
use Rattle.dep_model.specs.Dependencies.{Dependency, functional_part}
use Rattle.dep_model.specs.Deps.{dependency_of, dependencies_of}
use Rattle.fd_closure.specs.LeftSides.{InLeftSideWithin}
use Rattle.fd_closure.proofs.LeftSideLemmas.{within_push}
use Rattle.fd_closure.proofs.left_sides.functional_left_attributes.Goals as goal

pub loop-dep-init : goal.loop-dep-init
loop-dep-init c a = ((λ m. absurd (grind (arith, m, same_at c.empty-found.ensures.members a))), (λ h. absurd (omega (arith, h.1.1))))

pub loop-dep-preserved : goal.loop-dep-preserved
loop-dep-preserved c =
    let first : Dep = Fd (record { 0 = 0 }) (record { 0 = 0 }) in
    let i = c.loop-dep.dep-index in
    let deps = c.args.deps.now in
    let reach = attributes c.args.reach in
    let after = attributes c.with_left_side-found.result in
    subst (λ (ds : List Dependency). (a : ℕ) → (after a ≡ true) ↔ InLeftSideWithin reach (functional_part ds) a) (sym (map_more dependency_of deps i first c.loop-dep-test.true))
    (within_push (dependencies_of (take i deps)) (dependency_of (get_or deps i first)) reach (attributes c.loop-dep.found) after c.loop-dep.invariant c.with_left_side-found.ensures.members)

pub returns : goal.returns
returns c =
    record {
      members = subst (λ (ds : List Dep). (a : ℕ) → (attributes c.loop-dep.found a ≡ true) ↔ InLeftSideWithin (attributes c.args.reach) (functional_part (dependencies_of ds)) a) (take_all c.loop-dep.dep-index c.args.deps.now c.loop-dep-test.false) c.loop-dep.invariant;
    }

-- By the kind of the dependency, and by whether its left side lies within the reach.
use Rattle.std.proofs.Common.{◌≡◌, ◌↔◌, ◌⊎◌, ℕ, true, [], ◌∷◌, sym, ◌∙◌, subst}
use Rattle.std.proofs.lemmas.Bool.{false≢true}
use Rattle.attr_sets.specs.Sets.{attributes}
use Rattle.dep_model.specs.declared.dep.Dep.{Dep}
use Rattle.dep_model.specs.Dependencies.{functional_part}
use Rattle.dep_model.specs.Deps.{dependency_of}
use Rattle.fd_closure.specs.LeftSides.{InLeftSideWithin}
use Rattle.fd_closure.proofs.LeftSideLemmas.{within_added, within_kept, within_none}
use Rattle.fd_closure.proofs.left_sides.with_left_side.Goals as goal

pub returns-then-is_subset : goal.returns-then-is_subset
returns-then-is_subset c =
    let found = attributes c.args.found in
    let reach = attributes c.args.reach in
    let after = attributes c.union.result in
    record {
      members = subst (λ (e : Dep). (a : ℕ) → (after a ≡ true) ↔ ((found a ≡ true) ⊎ InLeftSideWithin reach (functional_part (dependency_of e ∷ [])) a)) (sym c.in-Fd.is)
          (within_added reach (attributes c.in-Fd.lhs) (attributes c.in-Fd.rhs) found after (c.is_subset.ensures.subset.0 c.if-is_subset.true) c.union.ensures.members);
    }

pub returns-else-is_subset : goal.returns-else-is_subset
returns-else-is_subset c =
    let found = attributes c.args.found in
    let reach = attributes c.args.reach in
    record {
      members = subst (λ (e : Dep). (a : ℕ) → (found a ≡ true) ↔ ((found a ≡ true) ⊎ InLeftSideWithin reach (functional_part (dependency_of e ∷ [])) a)) (sym c.in-Fd.is)
          (within_kept reach (attributes c.in-Fd.lhs) (attributes c.in-Fd.rhs) found (λ inside. false≢true (sym c.if-is_subset.false ∙ c.is_subset.ensures.subset.1 inside)));
    }

pub returns-in-Mvd : goal.returns-in-Mvd
returns-in-Mvd c =
    let found = attributes c.args.found in
    let reach = attributes c.args.reach in
    record {
      members = subst (λ (e : Dep). (a : ℕ) → (found a ≡ true) ↔ ((found a ≡ true) ⊎ InLeftSideWithin reach (functional_part (dependency_of e ∷ [])) a)) (sym c.in-Mvd.is)
          (within_none reach found);
    }

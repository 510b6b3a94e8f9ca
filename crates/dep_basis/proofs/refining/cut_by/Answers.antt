-- What is left to prove of `cut_by`: its clause `candidate`, by `RefiningLemmas`.
use Rattle.std.proofs.Common.{◌≡◌, sym, ap, subst, ◌∙◌}
use Rattle.std.proofs.lemmas.Bool.{true≢false}
use Rattle.attr_sets.specs.Attributes.{Attributes, intersection, difference, Disjoint}
use Rattle.attr_sets.specs.Sets.{attributes}
use Rattle.dep_model.specs.declared.dep.Dep.{Dep}
use Rattle.dep_model.specs.Dependencies.{fd, left_of, right_of}
use Rattle.dep_model.specs.Deps.{dependency_of}
use Rattle.dep_model.specs.Implication.{Implies}
use Rattle.attr_sets.proofs.AttributesLemmas.{same_at}
use Rattle.dep_basis.proofs.RefiningLemmas.{left_disjoint, implied_as_mvd, candidate_inside, candidate_outside, candidate_nothing}
use Rattle.dep_basis.proofs.refining.cut_by.Goals as goal
use Rattle.dep_basis.proofs.refining.cut_by.Goals.{After-contains}

-- the left side is apart from the part
sides_disjoint : (c : After-contains) → Disjoint (left_of (dependency_of c.args.dep)) (attributes c.args.part)
sides_disjoint c = left_disjoint (left_of (dependency_of c.args.dep)) (attributes c.sides.result.0) (attributes c.args.part) c.sides.ensures.left
    (λ common. true≢false (sym (c.intersects.ensures.intersects.1 common) ∙ c.if-intersects.false))

right_at : (c : After-contains) → right_of (dependency_of c.args.dep) c.args.attribute ≡ c.contains.result
right_at c = sym (c.contains.ensures.member ∙ ap (λ (x : Attributes). x c.args.attribute) c.sides.ensures.right)

pub returns-then-not-contains-clause-candidate : goal.returns-then-not-contains-clause-candidate
returns-then-not-contains-clause-candidate c n ds x d_in x_in given before =
    let d = dependency_of c.args.dep in
    let at = (goal.at.returns-then-not-contains-clause-candidate c).After-contains in
    let is : attributes c.difference.result ≡ difference (attributes c.args.part) (right_of d) = subst (λ (t : Attributes). attributes c.difference.result ≡ difference (attributes c.args.part) t) c.sides.ensures.right c.difference.ensures.members in
    candidate_outside n ds x (attributes c.args.part) (left_of d) (right_of d) (attributes c.difference.result) c.args.attribute x_in d_in.0 (right_at at ∙ c.if-not-contains.true) (sides_disjoint at) (implied_as_mvd n ds d given) is before

pub returns-in-Fd-clause-candidate : goal.returns-in-Fd-clause-candidate
returns-in-Fd-clause-candidate c n ds x d_in x_in given before =
    let d = dependency_of c.args.dep in
    let at = (goal.at.returns-in-Fd-clause-candidate c).After-contains in
    let as_fd : Dep → Type 0 = λ (e : Dep). Implies n ds (dependency_of e) → Implies n ds (fd (left_of (dependency_of e)) (right_of (dependency_of e))) in
    let implied : Implies n ds (fd (left_of d) (right_of d)) = subst as_fd (sym c.in-Fd.is) (λ h. h) given in
    candidate_nothing n ds x (attributes c.args.part) (left_of d) (right_of d) (attributes c.empty.result) c.args.attribute d_in.0 (right_at at ∙ c.if-not-contains.false) (sides_disjoint at) x_in implied (same_at c.empty.ensures.members) before

pub returns-in-Mvd-clause-candidate : goal.returns-in-Mvd-clause-candidate
returns-in-Mvd-clause-candidate c n ds x d_in x_in given before =
    let d = dependency_of c.args.dep in
    let at = (goal.at.returns-in-Mvd-clause-candidate c).After-contains in
    let is : attributes c.intersection.result ≡ intersection (attributes c.args.part) (right_of d) = subst (λ (t : Attributes). attributes c.intersection.result ≡ intersection (attributes c.args.part) t) c.sides.ensures.right c.intersection.ensures.members in
    candidate_inside n ds x (attributes c.args.part) (left_of d) (right_of d) (attributes c.intersection.result) c.args.attribute x_in d_in.0 (right_at at ∙ c.if-not-contains.false) (sides_disjoint at) (implied_as_mvd n ds d given) is before

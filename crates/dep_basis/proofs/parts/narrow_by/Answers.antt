-- What is left to prove of `narrow_by`: its clauses `refined` and `none`, by `PartLemmas`,
-- `PieceLemmas` and `RefiningLemmas`.
use Rattle.std.proofs.Common.{◌≡◌, true, sym, ap, subst, ◌∙◌, ⊎_elim}
use Rattle.std.proofs.lemmas.Bool.{true≢false}
use Rattle.attr_sets.specs.Attributes.{Attributes, intersection, difference, Disjoint, Intersects}
use Rattle.attr_sets.specs.Sets.{attributes}
use Rattle.attr_sets.specs.declared.set.TheConstants.{MOST_ATTRIBUTES}
use Rattle.attr_sets.proofs.AttributesLemmas.{attributes_below, tell_subset}
use Rattle.dep_model.specs.declared.dep.Dep.{Dep}
use Rattle.dep_model.specs.Dependencies.{fd, left_of, right_of}
use Rattle.dep_model.specs.Deps.{dependency_of, dependencies_of}
use Rattle.dep_model.specs.Implication.{Implies}
use Rattle.dep_basis.proofs.RefiningLemmas.{left_disjoint, implied_as_mvd}
use Rattle.dep_basis.proofs.PieceLemmas.{outside_refined, inside_refined}
use Rattle.dep_basis.proofs.PartLemmas.{parted_fd, parted_mvd}
use Rattle.dep_basis.proofs.parts.narrow_by.Goals as goal
use Rattle.dep_basis.proofs.parts.narrow_by.Goals.{After-intersects-2}

-- the left side is apart from the piece
sides_disjoint : (c : After-intersects-2) → Disjoint (left_of (dependency_of c.args.dep)) (attributes c.args.piece)
sides_disjoint c = left_disjoint (left_of (dependency_of c.args.dep)) (attributes c.sides.result.0) (attributes c.args.piece) c.sides.ensures.left
    (λ common. true≢false (sym (c.intersects.ensures.intersects.1 common) ∙ c.if-intersects.false))

-- the right side shares some of the set
shared : (c : After-intersects-2) → c.intersects-2.result ≡ true → Intersects (right_of (dependency_of c.args.dep)) (attributes c.args.beyond)
shared c is = subst (λ (t : Attributes). Intersects t (attributes c.args.beyond)) c.sides.ensures.right (c.intersects-2.ensures.intersects.0 is)

pub returns-then-not-intersects-clause-refined : goal.returns-then-not-intersects-clause-refined
returns-then-not-intersects-clause-refined c n ds x d_in given can =
    let d = dependency_of c.args.dep in
    let piece = attributes c.args.piece in
    let at = (goal.at.returns-then-not-intersects-clause-refined c).After-intersects-2 in
    let is : attributes c.difference.result ≡ difference piece (right_of d) = subst (λ (t : Attributes). attributes c.difference.result ≡ difference piece t) c.sides.ensures.right c.difference.ensures.members in
    outside_refined n ds x piece (left_of d) (right_of d) can d_in.0 (sides_disjoint at) (implied_as_mvd n (dependencies_of ds) d given) (attributes c.difference.result) is

pub returns-in-Fd-clause-none : goal.returns-in-Fd-clause-none
returns-in-Fd-clause-none c _ n ds x d_in given can =
    let d = dependency_of c.args.dep in
    let at = (goal.at.returns-in-Fd-clause-none c).After-intersects-2 in
    let as_fd : Dep → Type 0 = λ (e : Dep). Implies n (dependencies_of ds) (dependency_of e) → Implies n (dependencies_of ds) (fd (left_of (dependency_of e)) (right_of (dependency_of e))) in
    let implied : Implies n (dependencies_of ds) (fd (left_of d) (right_of d)) = subst as_fd (sym c.in-Fd.is) (λ h. h) given in
    parted_fd n ds x (attributes c.args.piece) (left_of d) (right_of d) (attributes c.args.beyond) can d_in.0 (sides_disjoint at) c.requires.beyond implied (shared at c.if-not-intersects.false)

pub returns-then-is_subset-clause-refined : goal.returns-then-is_subset-clause-refined
returns-then-is_subset-clause-refined c n ds x d_in given can =
    let d = dependency_of c.args.dep in
    let piece = attributes c.args.piece in
    let at = (goal.at.returns-then-is_subset-clause-refined c).After-intersects-2 in
    let is : attributes c.intersection.result ≡ intersection piece (right_of d) = subst (λ (t : Attributes). attributes c.intersection.result ≡ intersection piece t) c.sides.ensures.right c.intersection.ensures.members in
    inside_refined n ds x piece (left_of d) (right_of d) can d_in.0 (sides_disjoint at) (implied_as_mvd n (dependencies_of ds) d given) (attributes c.intersection.result) is

pub returns-else-is_subset-clause-none : goal.returns-else-is_subset-clause-none
returns-else-is_subset-clause-none c _ n ds x d_in given can =
    let d = dependency_of c.args.dep in
    let beyond = attributes c.args.beyond in
    let at = (goal.at.returns-else-is_subset-clause-none c).After-intersects-2 in
    ⊎_elim
    (λ out. parted_mvd n ds x (attributes c.args.piece) (left_of d) (right_of d) beyond can d_in.0 (sides_disjoint at) c.requires.beyond (implied_as_mvd n (dependencies_of ds) d given) (shared at c.if-not-intersects.false)
    out.0 out.2 (sym (ap (λ (t : Attributes). t out.0) c.sides.ensures.right) ∙ out.3))
    (λ inside. absurd (true≢false (sym (c.is_subset.ensures.subset.1 inside) ∙ c.if-is_subset.false)))
    (tell_subset MOST_ATTRIBUTES beyond (attributes c.sides.result.1) (attributes_below c.args.beyond))

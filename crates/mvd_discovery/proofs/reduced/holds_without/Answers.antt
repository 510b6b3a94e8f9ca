-- What is left to prove of `holds_without`: its clause `holds`.
use Rattle.std.proofs.Common.{◌≡◌, ℕ, inl, inr, ⊎_elim, refl, sym, subst, ◌∙◌}
use Rattle.std.proofs.lemmas.Bool.{false≢true}
use Rattle.attr_sets.specs.Attributes.{Attributes, below}
use Rattle.attr_sets.specs.Sets.{attributes}
use Rattle.dep_model.specs.Dependencies.{ObeysMvd}
use Rattle.dep_model.specs.Tuples.{Relation}
use Rattle.mvd_discovery.proofs.reduced.holds_without.Goals as goal

-- what is obeyed of sets that are known
moved : (n : ℕ) (r : Relation) (x y v w : Attributes) → x ≡ v → y ≡ w → ObeysMvd (below n) x y r → ObeysMvd (below n) v w r
moved n r x y v w e f obeys =
    subst (λ (z : Attributes). ObeysMvd (below n) z w r) e (subst (λ (z : Attributes). ObeysMvd (below n) x z r) f obeys)

pub returns-then-obeys_multivalued : goal.returns-then-obeys_multivalued
returns-then-obeys_multivalued c = record {
  holds = λ r are. (
    (λ t. inl (moved c.args.counts.now.width r _ (attributes c.args.right) _ _ c.without-less.ensures.members refl
        ((c.obeys_multivalued.ensures.obeys r are).0 c.if-obeys_multivalued.true))),
    (λ either. refl),
  );
}

pub returns : goal.returns
returns c = record {
  holds = λ r are.
      let n = c.args.counts.now.width in (
        (λ t. inr (moved n r _ _ _ _ c.without-less.ensures.members c.with.ensures.members ((c.obeys_multivalued-2.ensures.obeys r are).0 t))),
        (λ either. ⊎_elim
            (λ less. absurd (false≢true (sym c.if-obeys_multivalued.false ∙ (c.obeys_multivalued.ensures.obeys r are).1
            (moved n r _ (attributes c.args.right) _ _ (sym c.without-less.ensures.members) refl less))))
            (λ more. (c.obeys_multivalued-2.ensures.obeys r are).1 (moved n r _ _ _ _ (sym c.without-less.ensures.members) (sym c.with.ensures.members) more))
            either),
      );
}

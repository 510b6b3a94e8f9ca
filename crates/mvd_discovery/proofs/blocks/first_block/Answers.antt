-- What is left to prove of `first_block`: that its answer is the block, and that no set before the one at hand is
-- obeyed, by `SearchLemmas`.
use Rattle.std.proofs.Common.{◌≡◌, Option, refl, sym, subst, ◌∙◌}
use Rattle.std.specs.Prelude.{IsNone}
use Rattle.std.proofs.lemmas.Bool.{false≢true}
use Rattle.attr_sets.specs.Attributes.{Attributes, IsNextSubset, IsSubset, below, difference, only}
use Rattle.attr_sets.specs.Sets.{attributes}
use Rattle.attr_sets.specs.declared.set.AttrSet.{AttrSet}
use Rattle.dep_model.specs.Dependencies.{ObeysMvd}
use Rattle.mvd_laws.specs.Reduced.{IsBlockOfRows}
use Rattle.mvd_discovery.proofs.SearchLemmas.{is_block, last_obeyed, none_next}
use Rattle.mvd_discovery.proofs.blocks.first_block.Goals as goal
use Rattle.mvd_discovery.proofs.blocks.first_block.Goals.{After-next_subset}

-- the set at hand lies within the blocks without the attribute
at_hand : (c : After-next_subset) → IsSubset (attributes c.loop-next.part) (difference (attributes c.args.blocks) (only c.args.first))
at_hand c = subst (λ (z : Attributes). IsSubset (attributes c.loop-next.part) z) c.without-others.ensures.members c.loop-next.invariant.within

pub returns-then-obeys_multivalued-clause-block : goal.returns-then-obeys_multivalued-clause-block
returns-then-obeys_multivalued-clause-block c = λ r are part.
    let n = c.args.counts.now.width in
    let x = attributes c.args.left in
    let at = (goal.at.returns-then-obeys_multivalued-clause-block c).After-next_subset in
    let obeys = subst (λ (z : Attributes). ObeysMvd (below n) x z r) c.with.ensures.members ((c.obeys_multivalued.ensures.obeys r are).0 c.if-obeys_multivalued.true) in
    subst (λ (z : Attributes). IsBlockOfRows n r x z) (sym c.with-then-obeys_multivalued.ensures.members)
    (is_block n r x (attributes c.args.blocks) c.args.first part c.requires.first.member (attributes c.loop-next.part) (at_hand at)
    (c.loop-next.invariant.none r are part) obeys)

pub loop-next-preserved : goal.loop-next-preserved
loop-next-preserved c =
    let n = c.args.counts.now.width in
    let x = attributes c.args.left in
    let at = (goal.at.loop-next-preserved c).After-next_subset in
    record {
      within = c.in-Some.ensures.next.within;
      none = λ r are part. none_next n r x (attributes c.args.blocks) c.args.first part c.requires.first.member (attributes c.loop-next.part)
          (attributes c.in-Some.next) (at_hand at)
          (subst (λ (z : Attributes). IsNextSubset z (attributes c.loop-next.part) (attributes c.in-Some.next)) c.without-others.ensures.members c.in-Some.ensures.next)
          (c.loop-next.invariant.none r are part)
          (λ obeys. false≢true (sym c.if-obeys_multivalued.false ∙ (c.obeys_multivalued.ensures.obeys r are).1
          (subst (λ (z : Attributes). ObeysMvd (below n) x z r) (sym c.with.ensures.members) obeys)));
    }

pub returns-clause-block : goal.returns-clause-block
returns-clause-block c = λ r are part.
    let n = c.args.counts.now.width in
    let x = attributes c.args.left in
    let at = (goal.at.returns-clause-block c).After-next_subset in
    let last : attributes c.loop-next.part ≡ difference (attributes c.args.blocks) (only c.args.first) =
    c.next_subset.ensures.none.0 (subst (λ (o : Option AttrSet). IsNone o) (sym c.in_default.is) refl) ∙ c.without-others.ensures.members in
    subst (λ (z : Attributes). IsBlockOfRows n r x z) (sym c.with-2.ensures.members)
    (is_block n r x (attributes c.args.blocks) c.args.first part c.requires.first.member (attributes c.loop-next.part) (at_hand at)
    (c.loop-next.invariant.none r are part)
    (last_obeyed n r x (attributes c.args.blocks) c.args.first part c.requires.first.member (attributes c.loop-next.part) last))

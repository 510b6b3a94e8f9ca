-- What is left to prove of `obeys_multivalued`: that the three sets have their places, and its clause `obeys`, by
-- `CountLemmas`.
use Rattle.std.proofs.Common.{◌≡◌, length, refl, sym, ap, subst, ◌∙◌, arith}
use Rattle.attr_sets.specs.Attributes.{Attributes, IsSubset, below, difference, union}
use Rattle.attr_sets.specs.Sets.{attributes}
use Rattle.attr_sets.proofs.AttributesLemmas.{union_within}
use Rattle.mvd_discovery.proofs.CountLemmas.{joined_products, place, same_length, counts_decide_mvd}
use Rattle.mvd_discovery.proofs.obeying.obeys_multivalued.Goals as goal
use Rattle.mvd_discovery.proofs.obeying.obeys_multivalued.Goals.{After-union-others}

both_in : (c : After-union-others) → IsSubset (union (attributes c.args.left) (attributes c.args.right)) (below c.args.counts.now.width)
both_in c = union_within c.args.counts.now.width (attributes c.args.left) (attributes c.args.right) c.requires.left c.requires.right

-- the left side with the rest
abbrev others : After-union-others → Attributes
others c = union (attributes c.args.left) (difference (below c.args.counts.now.width) (union (attributes c.args.left) (attributes c.args.right)))

others_in : (c : After-union-others) → IsSubset (others c) (below c.args.counts.now.width)
others_in c = union_within c.args.counts.now.width (attributes c.args.left) _ c.requires.left (λ k m. grind (arith, m))

rest_is : (c : After-union-others) → attributes c.difference-rest.result ≡ difference (below c.args.counts.now.width) (union (attributes c.args.left) (attributes c.args.right))
rest_is c =
    c.difference-rest.ensures.members
    ∙ ap (λ (z : Attributes). difference z (attributes c.union-both.result)) c.full.ensures.members
    ∙ ap (λ (z : Attributes). difference (below c.args.counts.now.width) z) c.union-both.ensures.members

others_are : (c : After-union-others) → attributes c.union-others.result ≡ others c
others_are c = c.union-others.ensures.members ∙ ap (λ (z : Attributes). union (attributes c.args.left) z) (rest_is c)

pub sizes-requires : goal.sizes-requires
sizes-requires c = record { place = place c.requires.rows.0 c.args.counts.now c.requires.rows.1 c.args.left (omega arith) c.requires.left }

pub sizes-requires-2 : goal.sizes-requires-2
sizes-requires-2 c = record {
  place = place c.requires.rows.0 c.args.counts.now c.requires.rows.1 c.union-both.result (omega arith)
      (subst (λ (z : Attributes). IsSubset z (below c.args.counts.now.width)) (sym c.union-both.ensures.members) (both_in (goal.at.sizes-requires-2 c).After-union-others));
}

pub sizes-requires-3 : goal.sizes-requires-3
sizes-requires-3 c =
    let at = (goal.at.sizes-requires-3 c).After-union-others in
    record {
      place = place c.requires.rows.0 c.args.counts.now c.requires.rows.1 c.union-others.result (omega arith)
          (subst (λ (z : Attributes). IsSubset z (below c.args.counts.now.width)) (sym (others_are at)) (others_in at));
    }

pub are_products-requires-clause-first : goal.are_products-requires-clause-first
are_products-requires-clause-first c =
    let at = (goal.at.are_products-requires-clause-first c).After-union-others in
    ap length c.sizes-2.ensures.sizes
    ∙ same_length c.requires.rows.0 c.args.counts.now c.requires.rows.1 c.args.left c.union-both.result (attributes c.args.left) _ (omega arith) (omega arith)
    refl c.union-both.ensures.members c.requires.left (both_in at)
    ∙ sym (ap length c.sizes.ensures.sizes)

pub are_products-requires-clause-second : goal.are_products-requires-clause-second
are_products-requires-clause-second c =
    let at = (goal.at.are_products-requires-clause-second c).After-union-others in
    ap length c.sizes-3.ensures.sizes
    ∙ same_length c.requires.rows.0 c.args.counts.now c.requires.rows.1 c.args.left c.union-others.result (attributes c.args.left) _ (omega arith) (omega arith)
    refl (others_are at) c.requires.left (others_in at)
    ∙ sym (ap length c.sizes.ensures.sizes)

pub returns : goal.returns
returns c =
    let at = (goal.at.returns c).After-union-others in
    record {
      obeys = λ r are. joined_products c.are_products.result _ _ _ c.sizes.result.now c.sizes-2.result.now c.sizes-3.result.now _ c.sizes.ensures.sizes
          c.sizes-2.ensures.sizes c.sizes-3.ensures.sizes c.are_products.ensures.products
          (counts_decide_mvd r c.args.counts.now are (attributes c.args.left) (attributes c.args.right) c.args.left c.union-both.result c.union-others.result c.requires.left c.requires.right
          (omega arith) (omega arith) (omega arith) refl c.union-both.ensures.members (others_are at));
    }

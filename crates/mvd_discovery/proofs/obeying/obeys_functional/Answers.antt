-- What is left to prove of `obeys_functional`: that both sets have their places, and its clause `obeys`, by
-- `CountLemmas`.
use Rattle.std.proofs.Common.{◌≡◌, length, refl, sym, ap, subst, ◌∙◌, arith}
use Rattle.attr_sets.specs.Attributes.{Attributes, IsSubset, below, union}
use Rattle.attr_sets.specs.Sets.{attributes}
use Rattle.attr_sets.proofs.AttributesLemmas.{union_within}
use Rattle.mvd_discovery.proofs.CountLemmas.{joined_equal, place, same_length, counts_decide_fd}
use Rattle.mvd_discovery.proofs.obeying.obeys_functional.Goals as goal
use Rattle.mvd_discovery.proofs.obeying.obeys_functional.Goals.{After-union}

both_in : (c : After-union) → IsSubset (union (attributes c.args.left) (attributes c.args.right)) (below c.args.counts.now.width)
both_in c = union_within c.args.counts.now.width (attributes c.args.left) (attributes c.args.right) c.requires.left c.requires.right

pub sizes-requires : goal.sizes-requires
sizes-requires c = record { place = place c.requires.rows.0 c.args.counts.now c.requires.rows.1 c.args.left (omega arith) c.requires.left }

pub sizes-requires-2 : goal.sizes-requires-2
sizes-requires-2 c = record {
  place = place c.requires.rows.0 c.args.counts.now c.requires.rows.1 c.union.result (omega arith)
      (subst (λ (z : Attributes). IsSubset z (below c.args.counts.now.width)) (sym c.union.ensures.members) (both_in (goal.at.sizes-requires-2 c).After-union));
}

pub are_equal-requires : goal.are_equal-requires
are_equal-requires c = record {
  same_length = ap length c.sizes-2.ensures.sizes
      ∙ same_length c.requires.rows.0 c.args.counts.now c.requires.rows.1 c.args.left c.union.result (attributes c.args.left) _ (omega arith) (omega arith)
      refl c.union.ensures.members c.requires.left (both_in (goal.at.are_equal-requires c).After-union)
      ∙ sym (ap length c.sizes.ensures.sizes);
}

pub returns : goal.returns
returns c = record {
  obeys = λ r are. joined_equal c.are_equal.result _ _ c.sizes.result.now c.sizes-2.result.now _ c.sizes.ensures.sizes c.sizes-2.ensures.sizes
      c.are_equal.ensures.equal
      (counts_decide_fd r c.args.counts.now are (attributes c.args.left) (attributes c.args.right) c.args.left c.union.result c.requires.left c.requires.right
      (omega arith) (omega arith) refl c.union.ensures.members);
}

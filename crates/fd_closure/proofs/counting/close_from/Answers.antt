-- What is left to prove of `close_from`: what it answers in one case, that a round of its loop keeps
-- the invariant, and that its loop ends, by `grows-further`.
use Rattle.std.proofs.Common.{◌∙◌, ⊎_elim, refl, sym, arith}
use Rattle.std.proofs.lemmas.Bool.{false≢true, true≢false, false_from_ne_true}
use Rattle.attr_sets.specs.Sets.{attributes}
use Rattle.attr_sets.specs.declared.set.TheConstants.{MOST_ATTRIBUTES}
use Rattle.attr_sets.proofs.AttributesLemmas.{attributes_below, tell_subset, same_from_within, IsSubset-same, count_below-lt, count_below-le}
use Rattle.fd_closure.proofs.GrowthLemmas.{grows-further}
use Rattle.fd_closure.proofs.counting.close_from.Goals as goal

pub returns-then-eq : goal.returns-then-eq
returns-then-eq c = record {
  grows = grows-further c.args.deps.now (attributes c.args.from) (attributes c.loop-more.closed) (attributes c.spread_by_counts-near.result) c.loop-more.invariant c.spread_by_counts-near.ensures.grows;
  functionally_closed = c.with_right_sides-more.ensures.functionally_closed (IsSubset-same (attributes c.with_right_sides-more.result) (attributes c.spread_by_counts-near.result) (c.if-eq.ensures.same.0 refl));
}

pub loop-more-smaller : goal.loop-more-smaller
loop-more-smaller c =
    let now = attributes c.loop-more.closed in
    let near = attributes c.spread_by_counts-near.result in
    let more = attributes c.with_right_sides-more.result in
    ⊎_elim
    (λ new. omega (arith, count_below-lt MOST_ATTRIBUTES now more new.0 (λ k m. c.with_right_sides-more.ensures.grows k (c.spread_by_counts-near.ensures.grows.holds k m)) new.1 (false_from_ne_true (now new.0) (λ m. true≢false (sym (c.spread_by_counts-near.ensures.grows.holds new.0 m) ∙ new.3))) new.2, count_below-le MOST_ATTRIBUTES more))
    (λ back. absurd (false≢true (c.if-eq.ensures.same.1 (same_from_within more near back c.with_right_sides-more.ensures.grows))))
    (tell_subset MOST_ATTRIBUTES more near (attributes_below c.with_right_sides-more.result))

pub loop-more-preserved : goal.loop-more-preserved
loop-more-preserved c =
    let ds = c.args.deps.now in
    let more = c.with_right_sides-more.ensures in
    let near = grows-further ds (attributes c.args.from) (attributes c.loop-more.closed) (attributes c.spread_by_counts-near.result) c.loop-more.invariant c.spread_by_counts-near.ensures.grows in
    grows-further ds (attributes c.args.from) (attributes c.spread_by_counts-near.result) (attributes c.with_right_sides-more.result) near
    (record {
      holds = more.grows;
      within = more.within;
      implied = more.implied;
    })

-- What is left to prove of `closed_until`: its clause `found`, that a round of its loop keeps the
-- invariant, and that its loop ends, by `grows-further`.
use Rattle.std.proofs.Common.{⊎_elim, inr, refl, arith}
use Rattle.std.proofs.lemmas.Bool.{false≢true}
use Rattle.attr_sets.specs.Sets.{attributes}
use Rattle.attr_sets.specs.declared.set.TheConstants.{MOST_ATTRIBUTES}
use Rattle.attr_sets.proofs.AttributesLemmas.{attributes_below, tell_subset, same_from_within, IsSubset-same, count_below-lt, count_below-le}
use Rattle.dep_model.proofs.RuleLemmas.{reflexivity_obeyed}
use Rattle.fd_closure.proofs.GrowthLemmas.{grows-further}
use Rattle.fd_closure.proofs.closing.closed_until.Goals as goal

pub loop-wanted-init : goal.loop-wanted-init
loop-wanted-init c = record {
  holds = λ k m. m;
  within = λ universe d_in now_in. now_in;
  implied = λ n r legal. reflexivity_obeyed (attributes c.args.from) (attributes c.args.from) r (λ k m. m);
}

pub returns-then-eq-clause-found : goal.returns-then-eq-clause-found
returns-then-eq-clause-found c =
    inr (c.with_right_sides-more.ensures.functionally_closed (IsSubset-same (attributes c.with_right_sides-more.result) (attributes c.loop-wanted.found) (c.if-eq.ensures.same.0 refl)))

pub loop-wanted-smaller : goal.loop-wanted-smaller
loop-wanted-smaller c =
    let now = attributes c.loop-wanted.found in
    let more = c.with_right_sides-more in
    ⊎_elim
    (λ new. omega (arith, count_below-lt MOST_ATTRIBUTES now (attributes more.result) new.0 more.ensures.grows new.1 new.3 new.2, count_below-le MOST_ATTRIBUTES (attributes more.result)))
    (λ back. absurd (false≢true (c.if-eq.ensures.same.1 (same_from_within (attributes more.result) now back more.ensures.grows))))
    (tell_subset MOST_ATTRIBUTES (attributes more.result) now (attributes_below more.result))

pub loop-wanted-preserved : goal.loop-wanted-preserved
loop-wanted-preserved c =
    let more = c.with_right_sides-more in
    grows-further c.args.deps.now (attributes c.args.from) (attributes c.loop-wanted.found) (attributes more.result) c.loop-wanted.invariant (record {
      holds = more.ensures.grows;
      within = more.ensures.within;
      implied = more.ensures.implied;
    })

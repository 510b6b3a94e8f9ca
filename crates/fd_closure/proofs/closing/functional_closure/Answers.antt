-- What is left to prove of `functional_closure`: what it answers in one case, that the invariant of its
-- loop holds at first and stays, and that its loop ends, by `functionally_closed_holds` and
-- `fd_each-to`.
use Rattle.std.proofs.Common.{⊎_elim, refl, arith}
use Rattle.std.proofs.lemmas.Bool.{ltb-true, false≢true}
use Rattle.std.proofs.lemmas.Bool.Decides.{nat_tests}
use Rattle.attr_sets.specs.Attributes.{only, below}
use Rattle.attr_sets.specs.Sets.{attributes}
use Rattle.attr_sets.specs.declared.set.TheConstants.{MOST_ATTRIBUTES}
use Rattle.attr_sets.proofs.AttributesLemmas.{attributes_below, tell_subset, same_from_within, IsSubset-same, count_below-lt, count_below-le}
use Rattle.dep_model.specs.Dependencies.{functional_part}
use Rattle.dep_model.specs.Deps.{dependencies_of}
use Rattle.dep_model.proofs.RuleLemmas.{reflexivity_obeyed, transitivity_obeyed}
use Rattle.fd_closure.proofs.ClosureLemmas.{functionally_closed_holds, fd_each-to}
use Rattle.fd_closure.proofs.closing.functional_closure.Goals as goal

pub loop-more-init : goal.loop-more-init
loop-more-init c = record {
  grows = λ k m. m;
  within = λ universe d_in now_in. now_in;
  implied = λ n r legal. reflexivity_obeyed (attributes c.args.from) (attributes c.args.from) r (λ k m. m);
}

pub loop-more-preserved : goal.loop-more-preserved
loop-more-preserved c =
    let before = c.loop-more.invariant in
    let more = c.with_right_sides-more in
    record {
      grows = λ k m. more.ensures.grows k (before.grows k m);
      within = λ universe d_in from_in. more.ensures.within universe d_in (before.within universe d_in from_in);
      implied = λ n r legal. transitivity_obeyed (attributes c.args.from) (attributes c.loop-more.closed) (attributes more.result) r (before.implied n r legal) (more.ensures.implied n r legal);
    }

pub loop-more-smaller : goal.loop-more-smaller
loop-more-smaller c =
    let now = attributes c.loop-more.closed in
    let more = c.with_right_sides-more in
    ⊎_elim
    (λ new. omega (arith, count_below-lt MOST_ATTRIBUTES now (attributes more.result) new.0 more.ensures.grows new.1 new.3 new.2, count_below-le MOST_ATTRIBUTES (attributes more.result)))
    (λ back. absurd (false≢true (c.if-eq.ensures.same.1 (same_from_within (attributes more.result) now back more.ensures.grows))))
    (tell_subset MOST_ATTRIBUTES (attributes more.result) now (attributes_below more.result))

pub returns-then-eq : goal.returns-then-eq
returns-then-eq c = record {
  closure = λ n within from_in a.
      let now = c.loop-more in
      let ds = functional_part (dependencies_of c.args.deps.now) in
      let is_closed = c.with_right_sides-more.ensures.functionally_closed (IsSubset-same (attributes c.with_right_sides-more.result) (attributes now.closed) (c.if-eq.ensures.same.0 refl)) in (
        (λ m. (ltb-true a n (now.invariant.within (below n) within from_in a m), fd_each-to n ds (attributes c.args.from) (attributes now.closed) (now.invariant.implied n) a m)),
        (λ implied. functionally_closed_holds n c.args.deps.now (attributes c.args.from) (only a) (attributes now.closed) within from_in
            (λ k m. grind (arith, nat_tests, m, implied.0)) is_closed now.invariant.grows implied.1 a (grind (arith, nat_tests))),
      );
}

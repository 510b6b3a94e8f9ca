-- What is left to prove of `kept_closure`: what it answers, case by case, what `with_schemes`
-- requires, that the invariant of its loop holds at first and stays, and that its loop ends, by
-- `KeepingLemmas` and `KnownLemmas`.
use Rattle.std.proofs.Common.{inl, inr, ⊎_elim, refl, ◌∙◌, arith}
use Rattle.std.specs.Prelude.{All}
use Rattle.std.proofs.lemmas.Bool.{false≢true}
use Rattle.std.proofs.lemmas.List.Elements.{All-map}
use Rattle.attr_sets.specs.Attributes.{Attributes}
use Rattle.attr_sets.specs.Sets.{attributes}
use Rattle.attr_sets.specs.declared.set.TheConstants.{MOST_ATTRIBUTES}
use Rattle.attr_sets.specs.declared.set.AttrSet.{AttrSet}
use Rattle.attr_sets.proofs.AttributesLemmas.{
  attributes_below,
  tell_subset,
  same_from_within,
  IsSubset-same,
  count_below-lt,
  count_below-le,
}
use Rattle.dep_model.proofs.RuleLemmas.{transitivity_obeyed, reflexivity_obeyed}
use Rattle.dep_model.specs.Theories.{width_of, theory_of}
use Rattle.dep_model.specs.TwoTuples.{two_tuples}
use Rattle.preservation.specs.SchemeClosures.{schemes_of_closures, plan_of_closures}
use Rattle.preservation.specs.Keeping.{ObeysInside}
use Rattle.preservation.specs.FunctionallyClosed.{IsFunctionallyClosedIn}
use Rattle.preservation.proofs.KeepingLemmas.{functionally_closed_inside, functionally_closed_exactly}
use Rattle.preservation.proofs.KnownLemmas.{known_within, same_plan_obeyed}
use Rattle.preservation.proofs.closing.kept_closure.Goals as goal

pub loop-wanted-init : goal.loop-wanted-init
loop-wanted-init c = record {
  grows = λ k m. m;
  within = c.requires.from;
  kept = λ r inside. reflexivity_obeyed (attributes c.args.from) (attributes c.args.from) r (λ k m. m);
  known = c.requires.known;
  schemes = refl;
  fits = c.requires.fits;
}

pub with_schemes-more-requires-clause-closed : goal.with_schemes-more-requires-clause-closed
with_schemes-more-requires-clause-closed c = c.loop-wanted.invariant.within

pub loop-wanted-preserved : goal.loop-wanted-preserved
loop-wanted-preserved c =
    let before = c.loop-wanted.invariant in
    let more = c.with_schemes-more in
    record {
      grows = λ k m. more.ensures.grows k (before.grows k m);
      within = more.ensures.within;
      kept = λ r inside.
          transitivity_obeyed (attributes c.args.from) (attributes c.loop-wanted.closed) (attributes more.result) r
          (before.kept r inside)
          (more.ensures.kept r (same_plan_obeyed (width_of c.args.theory.now) (theory_of c.args.theory.now)
          c.args.closures.now c.loop-wanted.closures r before.schemes inside));
      known = more.ensures.known;
      schemes = more.ensures.schemes ∙ before.schemes;
      fits = more.ensures.fits;
    }

pub loop-wanted-smaller : goal.loop-wanted-smaller
loop-wanted-smaller c =
    let now = attributes c.loop-wanted.closed in
    let more = c.with_schemes-more in
    ⊎_elim
    (λ new. omega (
      arith,
      count_below-lt MOST_ATTRIBUTES now (attributes more.result) new.0 more.ensures.grows new.1 new.3 new.2,
      count_below-le MOST_ATTRIBUTES (attributes more.result),
    ))
    (λ back. absurd (false≢true
    (c.if-eq.ensures.same.1 (same_from_within (attributes more.result) now back more.ensures.grows))))
    (tell_subset MOST_ATTRIBUTES (attributes more.result) now (attributes_below more.result))

pub returns-then-eq : goal.returns-then-eq
returns-then-eq c =
    let s = c.args.theory.now in
    let n = width_of s in
    let ds = theory_of s in
    let now = attributes c.loop-wanted.closed in
    let before = c.loop-wanted.invariant in
    let more = c.with_schemes-more in
    let schemes = schemes_of_closures c.args.closures.now in
    let plan = plan_of_closures c.args.closures.now in
    let closed_then : All (λ (x : AttrSet). IsFunctionallyClosedIn n ds (attributes x) now now)
    (schemes_of_closures c.loop-wanted.closures) =
    more.ensures.functionally_closed (IsSubset-same (attributes more.result) now (c.if-eq.ensures.same.0 refl)) in
    let is_closed : All (λ (x : AttrSet). IsFunctionallyClosedIn n ds (attributes x) now now) schemes =
    rw before.schemes at closed_then in
    let inside : ObeysInside n ds plan (two_tuples n now) =
    functionally_closed_inside n ds plan now (known_within n ds c.args.closures.now c.requires.known)
    (All-map (λ (x : Attributes). IsFunctionallyClosedIn n ds x now now) attributes schemes is_closed) in
    record {
      follows = before.kept;
      found = inr (record {
        closure = functionally_closed_exactly n ds plan (attributes c.args.from) now c.requires.from before.within before.grows
            before.kept inside;
        inside = inside;
      });
      known = more.ensures.known;
      schemes = more.ensures.schemes ∙ before.schemes;
      fits = more.ensures.fits;
    }

pub returns-then-is_subset : goal.returns-then-is_subset
returns-then-is_subset c =
    let before = c.loop-wanted.invariant in
    let more = c.with_schemes-more in
    record {
      follows = λ r inside.
          transitivity_obeyed (attributes c.args.from) (attributes c.loop-wanted.closed) (attributes more.result) r
          (before.kept r inside)
          (more.ensures.kept r (same_plan_obeyed (width_of c.args.theory.now) (theory_of c.args.theory.now)
          c.args.closures.now c.loop-wanted.closures r before.schemes inside));
      found = inl (c.if-is_subset.ensures.subset.0 refl);
      known = more.ensures.known;
      schemes = more.ensures.schemes ∙ before.schemes;
      fits = more.ensures.fits;
    }

-- What is left to prove of `with_schemes`: its clause `functionally_closed` and that the invariant
-- of its loop holds at first and stays, by `KeepingLemmas` and `KnownLemmas`.
use Rattle.std.proofs.Common.{◌<◌, ◌≤◌, length, get_or, inl, inr, refl, sym, subst, arith, take_all}
use Rattle.std.proofs.lemmas.Bool.{cases_Bool}
use Rattle.std.proofs.lemmas.List.{length-map}
use Rattle.std.proofs.lemmas.List.Elements.{All-more, All-set}
use Rattle.attr_sets.specs.Attributes.{IsSubset}
use Rattle.attr_sets.specs.Sets.{attributes}
use Rattle.attr_sets.specs.declared.set.AttrSet.{AttrSet}
use Rattle.dep_model.proofs.RuleLemmas.{transitivity_obeyed, reflexivity_obeyed}
use Rattle.dep_model.specs.Theories.{width_of, theory_of}
use Rattle.preservation.specs.declared.scheme_closure.SchemeClosure.{SchemeClosure}
use Rattle.preservation.specs.SchemeClosures.{IsClosureWithin, IsSchemeClosure, schemes_of_closures, plan_of_closures}
use Rattle.preservation.specs.FunctionallyClosed.{IsFunctionallyClosedIn}
use Rattle.attr_sets.proofs.AttributesLemmas.{same_at}
use Rattle.preservation.proofs.KeepingLemmas.{added_follows, added_closes_functionally}
use Rattle.preservation.proofs.KnownLemmas.{scheme_of, scheme_at, same_schemes}
use Rattle.preservation.proofs.closing.with_schemes.Goals as goal

pub loop-i-init : goal.loop-i-init
loop-i-init c = record {
  grows = λ k m. m;
  within = c.requires.closed;
  kept = λ r inside. reflexivity_obeyed (attributes c.args.closed) (attributes c.args.closed) r (λ k m. m);
  closed_so_far = λ k d l. absurd (omega arith);
  known = c.requires.known;
  schemes = refl;
  fits = c.requires.fits;
}

pub loop-i-preserved : goal.loop-i-preserved
loop-i-preserved c =
    let s = c.args.theory.now in
    let n = width_of s in
    let ds = theory_of s in
    let i = c.loop-i.i in
    let before = c.loop-i.invariant in
    let old = c.args.closures.now in
    let from = attributes c.args.closed in
    let now = attributes c.loop-i.more in
    let next = attributes c.union-more.result in
    let nothing : AttrSet = record { 0 = 0 } in
    let nowhere : SchemeClosure = record { scheme = nothing; part = nothing; closed = nothing } in
    let scheme = attributes (get_or c.loop-i.closures i nowhere).scheme in
    let closure = c.closure_covering-closure in
    let low : i < length old = c.loop-i-test.true in
    let known : IsClosureWithin n ds scheme (attributes closure.result.part) (attributes closure.result.closed) =
    subst (λ (scheme : AttrSet). IsClosureWithin n ds (attributes scheme) (attributes closure.result.part)
    (attributes closure.result.closed)) closure.ensures.scheme closure.ensures.known in
    let grows : IsSubset now next = (λ k m. grind (arith, same_at c.union-more.ensures.members k, m)) in
    record {
      grows = λ k m. grows k (before.grows k m);
      within = λ k m. elim (cases_Bool (now k)) [
        | inl had ↦ before.within k had
        | inr new ↦ known.universe k ((known.closure k).0 (grind (arith, same_at c.union-more.ensures.members k, new, m))).0
      ];
      kept = λ r obeys. transitivity_obeyed from now next r (before.kept r obeys)
          (added_follows n ds (plan_of_closures old) scheme now (attributes closure.result.part)
          (attributes closure.result.closed) next r
          known closure.ensures.part c.union-more.ensures.members
          (scheme_at old c.loop-i.closures i nowhere before.schemes low) obeys);
      closed_so_far = All-more (λ (scheme : AttrSet). IsFunctionallyClosedIn n ds (attributes scheme) from next)
          (schemes_of_closures old) i nothing
          (omega (arith, low, length-map old (λ (closure : SchemeClosure). closure.scheme)))
          (λ k d l x y within implied inside a m. grows a (before.closed_so_far k d l x y within implied inside a m))
          (subst (λ (scheme : AttrSet). IsFunctionallyClosedIn n ds (attributes scheme) from next)
          (sym (scheme_of old c.loop-i.closures i nowhere before.schemes))
          (λ x y within implied x_in. added_closes_functionally n ds scheme now (attributes closure.result.part)
          (attributes closure.result.closed) next known closure.ensures.covers c.union-more.ensures.members
          x y within implied (λ k m. before.grows k (x_in k m))));
      known = All-set (IsSchemeClosure n ds) c.loop-i.closures i closure.result closure.ensures.known before.known;
      schemes = same_schemes old c.loop-i.closures i closure.result nowhere before.schemes closure.ensures.scheme;
      fits = closure.ensures.fits;
    }

pub returns-clause-functionally_closed : goal.returns-clause-functionally_closed
returns-clause-functionally_closed c = λ same.
    let schemes = schemes_of_closures c.args.closures.now in
    let long : length schemes ≤ c.loop-i.i =
    omega (arith, c.loop-i-test.false, length-map c.args.closures.now (λ (closure : SchemeClosure). closure.scheme)) in
    let all = (rw (take_all c.loop-i.i schemes long) at c.loop-i.invariant.closed_so_far) in
    λ k d l x y within implied inside a m. same a (all k d l x y within implied inside a m)

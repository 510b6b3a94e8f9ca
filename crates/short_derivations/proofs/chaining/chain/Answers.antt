-- What is left to prove of `chain`: that some link leads on as long as the goal is not reached, that the loop
-- ends, and that a round of it keeps the invariant.
use Rattle.std.proofs.Common.{◌∙◌, sym, refl, inl, inr, subst, arith}
use Rattle.std.proofs.lemmas.Bool.{false≢true}
use Rattle.std.proofs.lemmas.List.Elements.{All-contains}
use Rattle.attr_sets.specs.declared.set.TheConstants.{MOST_ATTRIBUTES}
use Rattle.attr_sets.specs.Attributes.{Attributes}
use Rattle.attr_sets.specs.Sets.{attributes}
use Rattle.attr_sets.proofs.AttributesLemmas.{attributes_below, tell_subset, count_below-lt, count_below-le, same_at}
use Rattle.derivation.proofs.ChainLemmas.{given_within}
use Rattle.short_derivations.specs.Links.{IsLinkOf, IsBegun}
use Rattle.short_derivations.specs.Views.{lines_of}
use Rattle.short_derivations.proofs.ChainSteps.{begun_holds, none_out}
use Rattle.short_derivations.proofs.chaining.chain.Goals as goal

pub unreachable-requires : goal.unreachable-requires
unreachable-requires c =
    let s = c.args.theory.now in
    let links = c.args.links.now in
    let x = attributes c.args.lhs in
    let y = attributes c.args.rhs in
    let closed = attributes c.loop-lhs.closed in
    let holds = begun_holds s links x y closed (lines_of c.loop-lhs.lines.items) c.loop-lhs.invariant.begun in
    let inside = none_out s links x y closed c.requires.links c.requires.lhs c.requires.rhs (c.in-None.ensures.none refl) holds c.requires.implied in
    false≢true (sym c.loop-lhs-test.true ∙ c.is_subset.ensures.subset.1 inside)

pub loop-lhs-smaller : goal.loop-lhs-smaller
loop-lhs-smaller c =
    let now = attributes c.loop-lhs.closed in
    let more = attributes c.union-closed.result in
    let out = c.in-Some.ensures.out in
    elim (tell_subset MOST_ATTRIBUTES (attributes c.in-Some.link.rhs) now (attributes_below c.in-Some.link.rhs)) [
      | inl new ↦ omega (arith, count_below-lt MOST_ATTRIBUTES now more new.0 (λ k m. grind (arith, same_at c.union-closed.ensures.members k, m)) new.1 new.3 (grind (arith, same_at c.union-closed.ensures.members new.0, new.2)), count_below-le MOST_ATTRIBUTES more)
      | inr all ↦ absurd (out.past all)
    ]

pub loop-lhs-preserved : goal.loop-lhs-preserved
loop-lhs-preserved c =
    let s = c.args.theory.now in
    let links = c.args.links.now in
    let x = attributes c.args.lhs in
    let y = attributes c.args.rhs in
    let link = c.in-Some.link in
    let members = c.union-closed.ensures.members in
    let is = All-contains (IsLinkOf s) links link c.requires.links c.in-Some.ensures.one in
    let right = (given_within s link.position (attributes link.lhs) (attributes link.rhs) is).1 in
    record {
      begun = subst (λ (w : Attributes). IsBegun s links x y w (lines_of c.follow.new.lines.items)) (sym members) (inr c.in_ok-follow-in-Some.ensures.chain);
      within = λ j m. grind (arith, same_at members j, m, right j, c.loop-lhs.invariant.within j);
    }

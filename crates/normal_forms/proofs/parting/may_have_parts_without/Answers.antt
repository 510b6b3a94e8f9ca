-- What is left to prove of `may_have_parts_without`: what it answers, case by case.
use Rattle.std.proofs.Common.{◌≡◌, false, sym, subst, ◌∙◌, arith}
use Rattle.std.proofs.lemmas.Bool.{true≢false}
use Rattle.attr_sets.specs.Attributes.{Attributes, difference}
use Rattle.attr_sets.specs.Sets.{attributes}
use Rattle.attr_sets.proofs.AttributesLemmas.{same_at}
use Rattle.dep_model.specs.Theories.{width_of, theory_of}
use Rattle.std.specs.Prelude.{IsTrue}
use Rattle.normal_forms.specs.Passing.{HasNoPartsAbout}
use Rattle.normal_forms.proofs.parting.may_have_parts_without.Goals as goal

pub returns-then-not-contains : goal.returns-then-not-contains
returns-then-not-contains c =
    let a = c.args.attribute in
    let gone : difference (attributes c.args.most) (attributes c.args.least) a ≡ false = sym (same_at c.difference.ensures.members a) ∙ (sym c.contains.ensures.member ∙ c.if-not-contains.true) in
    record { none = λ _ member out. absurd (true≢false (sym (grind (arith, member, out)) ∙ gone)) }

pub has_no_parts_about-requires-clause-most : goal.has_no_parts_about-requires-clause-most
has_no_parts_about-requires-clause-most c k m = c.requires.most k (grind (arith, same_at c.without.ensures.members k, m))

pub returns : goal.returns
returns c =
    let s = c.args.theory.now in
    let about = subst (λ (x : Attributes). IsTrue c.has_no_parts_about.result → HasNoPartsAbout (width_of s) (theory_of s) (attributes c.args.scheme) (attributes c.args.least) x) c.without.ensures.members c.has_no_parts_about.ensures.none in
    record { none = λ no _ _. about (grind (arith, no)) }

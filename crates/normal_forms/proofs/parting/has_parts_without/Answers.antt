-- What is left to prove of `has_parts_without`: what it answers, case by case.
use Rattle.std.proofs.Common.{◌≡◌, ◌↔◌, true, false, sym, subst, ◌∙◌, arith}
use Rattle.std.proofs.lemmas.Bool.{true≢false, false≢true}
use Rattle.attr_sets.specs.Attributes.{Attributes, difference}
use Rattle.attr_sets.specs.Sets.{attributes}
use Rattle.attr_sets.proofs.AttributesLemmas.{same_at}
use Rattle.dep_model.specs.Theories.{width_of, theory_of}
use Rattle.std.specs.Prelude.{IsTrue}
use Rattle.dep_basis.specs.Parts.{HasTwoParts}
use Rattle.normal_forms.proofs.parting.has_parts_without.Goals as goal

pub returns-then-not-contains : goal.returns-then-not-contains
returns-then-not-contains c =
    let a = c.args.attribute in
    let gone : difference (attributes c.args.most) (attributes c.args.least) a ≡ false = sym (same_at c.difference.ensures.members a) ∙ (sym c.contains.ensures.member ∙ c.if-not-contains.true) in
    record { parts = ((λ e. absurd (false≢true e)), (λ h. absurd (true≢false (sym (grind (arith, h.0, h.1)) ∙ gone)))) }

pub has_two_parts-requires-clause-lhs : goal.has_two_parts-requires-clause-lhs
has_two_parts-requires-clause-lhs c k m = c.requires.most k (grind (arith, same_at c.without.ensures.members k, m))

pub returns : goal.returns
returns c =
    let s = c.args.theory.now in
    let a = c.args.attribute in
    let both : difference (attributes c.args.most) (attributes c.args.least) a ≡ true = sym (same_at c.difference.ensures.members a) ∙ (sym c.contains.ensures.member ∙ c.if-not-contains.false) in
    let exact = subst (λ (x : Attributes). IsTrue c.has_two_parts.result ↔ HasTwoParts (width_of s) (theory_of s) (attributes c.args.scheme) x) c.without.ensures.members c.has_two_parts.ensures.parts in
    record { parts = ((λ e. (grind (arith, both), grind (arith, both), exact.0 e)), (λ h. exact.1 h.2)) }

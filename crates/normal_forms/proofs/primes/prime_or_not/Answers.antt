-- What is left to prove of `prime_or_not`: what it answers, case by case, that the invariant of its
-- loop holds at first and stays, and that its loop ends, by `primes_more` and `candidates_less`.
use Rattle.std.proofs.Common.{◌≡◌, true, refl, sym, ◌∙◌, inl, inr, arith}
use Rattle.std.proofs.lemmas.Bool.{true≢false, cases_Bool}
use Rattle.attr_sets.specs.Attributes.{difference}
use Rattle.attr_sets.specs.Sets.{attributes}
use Rattle.dep_model.specs.Dependencies.{functional_part}
use Rattle.dep_model.specs.Theories.{width_of, theory_of}
use Rattle.attr_sets.proofs.AttributesLemmas.{same_at}
use Rattle.normal_forms.proofs.PrimeLemmas.{primes_more, candidates_less}
use Rattle.normal_forms.proofs.primes.prime_or_not.Goals as goal

pub loop-attribute-init : goal.loop-attribute-init
loop-attribute-init c = record { prime = c.requires.primes; grows = λ k m. m }

pub returns-in_default : goal.returns-in_default
returns-in_default c =
    let known = attributes c.loop-attribute.known in
    record {
      prime_or_not = (
        c.loop-attribute.invariant.prime,
        (λ k m. elim (cases_Bool (known k)) [
          | inl here ↦ here
          | inr out ↦
              let left : attributes c.difference.result k ≡ true = same_at c.difference.ensures.members k ∙ grind (arith, m, out) in
              absurd (true≢false (sym left ∙ c.in_default.ensures.none.0 refl k))
        ]),
        c.loop-attribute.invariant.grows,
      );
    }

pub loop-attribute-smaller : goal.loop-attribute-smaller
loop-attribute-smaller c =
    candidates_less (attributes c.args.candidates) (attributes c.loop-attribute.known) (attributes c.union-known.result) (attributes c.difference.result) c.in-Some.attribute c.in-Some.ensures.attribute c.difference.ensures.members
    c.in-Some.ensures.first.member (λ k m. grind (arith, same_at c.union-known.ensures.members k, m))
    (grind (arith, same_at c.union-known.ensures.members c.in-Some.attribute, c.in-Some-key_with.ensures.member))

pub loop-attribute-preserved : goal.loop-attribute-preserved
loop-attribute-preserved c =
    let s = c.args.theory.now in
    record {
      prime = primes_more (width_of s) (functional_part (theory_of s)) (attributes c.args.scheme) (attributes c.loop-attribute.known) (attributes c.in-Some-key_with.key) (attributes c.union-known.result)
          c.union-known.ensures.members c.loop-attribute.invariant.prime c.in-Some-key_with.ensures.key;
      grows = λ k m. grind (arith, same_at c.union-known.ensures.members k, c.loop-attribute.invariant.grows k m);
    }

pub returns-in-None : goal.returns-in-None
returns-in-None c =
    let known = attributes c.loop-attribute.known in
    let least = c.in-Some.ensures.first in
    let at : difference (attributes c.args.candidates) known c.in-Some.attribute ≡ true = sym (same_at c.difference.ensures.members c.in-Some.attribute) ∙ least.member in
    record {
      prime_or_not = (
        grind (arith, at),
        c.in-None.ensures.none refl,
        (λ b less m. elim (cases_Bool (known b)) [
          | inl here ↦ c.loop-attribute.invariant.prime b here
          | inr out ↦
              let left : attributes c.difference.result b ≡ true = same_at c.difference.ensures.members b ∙ grind (arith, m, out) in
              absurd (true≢false (sym left ∙ least.least b (omega arith) less))
        ]),
      );
    }

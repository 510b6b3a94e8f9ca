-- What is left to prove of `has_no_parts_about`: its clause, and that a round of its loop keeps the
-- invariant.
use Rattle.std.proofs.Common.{ℕ, sym, ap, subst, ◌∙◌, inl, inr, arith}
use Rattle.std.proofs.lemmas.Bool.{false≢true, cases_eq, ltb-true}
use Rattle.attr_sets.specs.Attributes.{only, difference}
use Rattle.attr_sets.specs.Sets.{attributes}
use Rattle.attr_sets.specs.declared.set.TheConstants.{MOST_ATTRIBUTES}
use Rattle.attr_sets.proofs.AttributesLemmas.{attributes_below}
use Rattle.dep_model.specs.Theories.{width_of, theory_of}
use Rattle.dep_basis.specs.Parts.{HasTwoParts}
use Rattle.normal_forms.proofs.parting.has_no_parts_about.Goals as goal

pub loop-i-preserved : goal.loop-i-preserved
loop-i-preserved c a less member out parts =
    let s = c.args.theory.now in
    elim (cases_eq a c.loop-i.i) [
      | inl same ↦ false≢true (sym c.if-has_parts_without.false ∙ c.has_parts_without.ensures.parts.1 (
        ap (attributes c.args.most) (sym same) ∙ member,
        ap (attributes c.args.least) (sym same) ∙ out,
        subst (λ (i : ℕ). HasTwoParts (width_of s) (theory_of s) (attributes c.args.scheme) (difference (attributes c.args.most) (only i))) same parts,
      ))
      | inr other ↦ c.loop-i.invariant a (omega (arith, less, other)) member out parts
    ]

pub returns : goal.returns
returns c = record {
  none = λ _. (
    (λ parts. false≢true (sym c.if-has_two_parts.false ∙ c.has_two_parts.ensures.parts.1 parts)),
    (λ a member. c.loop-i.invariant a (omega (arith, c.loop-i-test.false, ltb-true a MOST_ATTRIBUTES (attributes_below c.args.most a member))) member),
  );
}

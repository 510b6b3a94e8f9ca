-- What is left to prove of `is_whole_without_two`: its clause, and that a round of its loop keeps the
-- invariant.
use Rattle.std.proofs.Common.{ℕ, sym, ap, subst, ◌∙◌, inl, inr, arith}
use Rattle.std.proofs.lemmas.Bool.{cases_eq, ltb-true}
use Rattle.attr_sets.specs.Attributes.{only, difference}
use Rattle.attr_sets.specs.Sets.{attributes}
use Rattle.attr_sets.specs.declared.set.TheConstants.{MOST_ATTRIBUTES}
use Rattle.attr_sets.proofs.AttributesLemmas.{attributes_below}
use Rattle.dep_model.specs.Theories.{width_of, theory_of}
use Rattle.normal_forms.specs.Passing.{HasNoPartsAbout}
use Rattle.normal_forms.proofs.parting.is_whole_without_two.Goals as goal

pub loop-i-preserved : goal.loop-i-preserved
loop-i-preserved c a less member out =
    let s = c.args.theory.now in
    elim (cases_eq a c.loop-i.i) [
      | inl same ↦ subst (λ (i : ℕ). HasNoPartsAbout (width_of s) (theory_of s) (attributes c.args.scheme) (attributes c.args.least) (difference (attributes c.args.most) (only i))) (sym same)
          (c.may_have_parts_without.ensures.none c.if-may_have_parts_without.false (ap (attributes c.args.most) (sym same) ∙ member) (ap (attributes c.args.least) (sym same) ∙ out))
      | inr other ↦ c.loop-i.invariant a (omega (arith, less, other)) member out
    ]

pub returns : goal.returns
returns c = record {
  whole = λ _ a member. c.loop-i.invariant a (omega (arith, c.loop-i-test.false, ltb-true a MOST_ATTRIBUTES (attributes_below c.args.most a member))) member;
}

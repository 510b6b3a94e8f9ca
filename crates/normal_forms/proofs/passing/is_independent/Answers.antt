-- What is left to prove of `is_independent`: its clause, and that a round of its loop keeps the invariant.
use Rattle.std.proofs.Common.{ℕ, sym, ap, subst, ◌∙◌, inl, inr, arith}
use Rattle.std.proofs.lemmas.Bool.{false≢true, cases_eq, ltb-true}
use Rattle.attr_sets.specs.Attributes.{only, difference}
use Rattle.attr_sets.specs.Sets.{attributes}
use Rattle.attr_sets.specs.declared.set.TheConstants.{MOST_ATTRIBUTES}
use Rattle.attr_sets.proofs.AttributesLemmas.{attributes_below}
use Rattle.dep_model.specs.Theories.{width_of}
use Rattle.dep_model.specs.Keys.{InClosure}
use Rattle.normal_forms.specs.Passing.{theory_by}
use Rattle.normal_forms.proofs.passing.is_independent.Goals as goal

pub loop-i-preserved : goal.loop-i-preserved
loop-i-preserved c a less member out closed =
    let s = c.args.theory.now in
    elim (cases_eq a c.loop-i.i) [
      | inl same ↦ false≢true (sym c.if-is_determined_without.false ∙ c.is_determined_without.ensures.determined.1 (
        ap (attributes c.args.most) (sym same) ∙ member,
        ap (attributes c.args.least) (sym same) ∙ out,
        subst (λ (i : ℕ). InClosure (width_of s) (theory_by c.args.functional s) (difference (attributes c.args.most) (only i)) i) same closed,
      ))
      | inr other ↦ c.loop-i.invariant a (omega (arith, less, other)) member out closed
    ]

pub returns : goal.returns
returns c = record {
  independent = λ _ a member. c.loop-i.invariant a (omega (arith, c.loop-i-test.false, ltb-true a MOST_ATTRIBUTES (attributes_below c.args.most a member))) member;
}

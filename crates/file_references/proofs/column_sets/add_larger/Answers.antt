-- What is left to prove of `add_larger`: that the invariant of its loop holds at first and stays, by `SetLemmas`.
use Rattle.std.proofs.Common.{true≢false, ◌+◌, ap, sym, subst, ◌∙◌, ℕ, arith}
use Rattle.attr_sets.specs.Attributes.{IsSubset}
use Rattle.attr_sets.specs.Sets.{attributes}
use Rattle.file_references.specs.Keys.{AddsLargerUpTo}
use Rattle.file_references.proofs.SetLemmas.{no_larger, none_larger, one_larger}
use Rattle.file_references.proofs.column_sets.add_larger.Goals as goal
use Rattle.file_references.proofs.column_sets.add_larger.Goals.{then-contains+then-is_subset+in_ok-push, else-contains, else-contains-via-then-contains+else-is_subset, else-contains-via-else-contains}

pub loop-attribute-init : goal.loop-attribute-init
loop-attribute-init c = record { adds = none_larger (attributes c.args.whole) (attributes c.args.set) c.args.larger.now.items }

pub loop-attribute-preserved : goal.loop-attribute-preserved
loop-attribute-preserved c =
    let a = c.loop-attribute.attribute in
    let whole = attributes c.args.whole in
    let x = attributes c.args.set in
    let old = c.args.larger.now.items in
    let now = c.loop-attribute.larger.items in
    let before = c.loop-attribute.invariant.adds in
    let member = sym c.contains.ensures.member in
    elim c.if-contains.branch [
      | then-contains+then-is_subset+in_ok-push w ↦ record {
        adds = subst (AddsLargerUpTo whole x (a + 1) old) (sym (ap (λ v. v.items) w.larger-is ∙ w.in_ok-push.ensures.items))
            (one_larger whole x a old now w.with.result (member ∙ w.if-contains.true)
            (subst (IsSubset x) w.full.ensures.members (w.is_subset.ensures.subset.0 w.if-is_subset.true)) w.with.ensures.members before);
      }
      | else-contains w ↦ record {
        adds = subst (AddsLargerUpTo whole x (a + 1) old) (sym (ap (λ v. v.items) w.larger-is)) (elim w.else-contains.branch [
          | else-contains-via-then-contains+else-is_subset v ↦ no_larger whole x a old now
              (λ has within. true≢false (sym (v.is_subset.ensures.subset.1 (subst (IsSubset x) (sym v.full.ensures.members) within)) ∙ v.if-is_subset.false)) before
          | else-contains-via-else-contains v ↦ no_larger whole x a old now
              (λ has within. true≢false (sym has ∙ member ∙ v.if-contains.false)) before
        ]);
      }
    ]

pub returns : goal.returns
returns c = record {
  added = subst (λ (most : ℕ). AddsLargerUpTo (attributes c.args.whole) (attributes c.args.set) most c.args.larger.now.items c.loop-attribute.larger.items)
      (omega (arith, c.loop-attribute-test.false, c.loop-attribute.auto.attribute-end)) c.loop-attribute.invariant.adds;
}

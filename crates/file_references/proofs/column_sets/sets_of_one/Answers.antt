-- What is left to prove of `sets_of_one`: that a round of its loop keeps the invariant, and what it answers, by
-- `SetLemmas`.
use Rattle.std.proofs.Common.{◌≡◌, ap, sym, subst, ◌∙◌, arith}
use Rattle.std.specs.Prelude.{All, Any}
use Rattle.std.proofs.lemmas.List.Elements.{All-push}
use Rattle.attr_sets.specs.Attributes.{IsSubset, count_below, only}
use Rattle.attr_sets.specs.Sets.{attributes}
use Rattle.attr_sets.specs.declared.set.AttrSet.{AttrSet}
use Rattle.attr_sets.specs.declared.set.TheConstants.{MOST_ATTRIBUTES}
use Rattle.attr_sets.proofs.AttributesLemmas.{attributes_below}
use Rattle.file_references.proofs.SetLemmas.{all_of_one, each_of_one, one_more_of_one, no_more_of_one}
use Rattle.file_references.proofs.column_sets.sets_of_one.Goals as goal
use Rattle.file_references.proofs.column_sets.sets_of_one.Goals.{then-contains+in_ok-push, else-contains}

pub loop-attribute-preserved : goal.loop-attribute-preserved
loop-attribute-preserved c =
    let a = c.loop-attribute.attribute in
    let x = attributes c.args.whole in
    let before = c.loop-attribute.invariant in
    elim c.if-contains.branch [
      | then-contains+in_ok-push w ↦
          let has = sym c.contains.ensures.member ∙ w.if-contains.true in
          let is = ap (λ v. v.items) w.sets-is ∙ w.in_ok-push.ensures.items in
          record {
            each = subst (All (λ (s : AttrSet). IsSubset (attributes s) x × (count_below (attributes s) MOST_ATTRIBUTES ≡ 1))) (sym is)
                (All-push (λ (s : AttrSet). IsSubset (attributes s) x × (count_below (attributes s) MOST_ATTRIBUTES ≡ 1)) c.loop-attribute.sets.items w.single.result
                before.each (each_of_one x c.loop-attribute.sets.items w.single.result a c.loop-attribute-test.true has w.single.ensures.members));
            all = λ b low member. subst (Any (λ (s : AttrSet). attributes s ≡ only b)) (sym is)
                (one_more_of_one x a c.loop-attribute.sets.items w.single.result before.all w.single.ensures.members b low member);
          }
      | else-contains w ↦
          let lacks = sym c.contains.ensures.member ∙ w.if-contains.false in
          let is = ap (λ v. v.items) w.sets-is in
          record {
            each = subst (All (λ (s : AttrSet). IsSubset (attributes s) x × (count_below (attributes s) MOST_ATTRIBUTES ≡ 1))) (sym is) before.each;
            all = λ b low member. subst (Any (λ (s : AttrSet). attributes s ≡ only b)) (sym is)
                (no_more_of_one x a c.loop-attribute.sets.items before.all lacks b low member);
          }
    ]

pub returns : goal.returns
returns c = record {
  sets = all_of_one (attributes c.args.whole) c.loop-attribute.sets.items (attributes_below c.args.whole) c.loop-attribute.invariant.each
      (λ a low member. c.loop-attribute.invariant.all a (omega (arith, low, c.loop-attribute-test.false)) member);
}

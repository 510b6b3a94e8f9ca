-- What is left to prove of `refine_by`: its clause `groups` and that a round of its loop keeps the invariant, by
-- `NumberingLemmas`.
use Rattle.std.proofs.Common.{arith, ◌≡◌, ◌<◌, ◌+◌, ℕ, true, false, length, sym, ap, subst, ◌∙◌}
use Rattle.attr_sets.specs.Attributes.{Attributes, IsSubset, intersection, below, union, only}
use Rattle.attr_sets.specs.Sets.{attributes}
use Rattle.attr_sets.proofs.AttributesLemmas.{attributes_below}
use Rattle.row_groups.specs.Numberings.{AreGroups}
use Rattle.row_groups.proofs.NumberingLemmas.{same_groups, intersection_in, intersection_out, intersection_all, union-assoc}
use Rattle.row_groups.proofs.groups.refine_by.Goals as goal
use Rattle.row_groups.proofs.groups.refine_by.Goals.{then-contains+in_ok-numbers, else-contains}

pub loop-attribute-preserved : goal.loop-attribute-preserved
loop-attribute-preserved c =
    let old = c.loop-attribute.invariant in
    let k : ℕ = c.loop-attribute.attribute in
    let set : Attributes = attributes c.args.set in
    elim c.if-contains.branch [
      | then-contains+in_ok-numbers w ↦
          let has : set k ≡ true = sym c.contains.ensures.member ∙ w.if-contains.true in
          record {
            count = rw w.numbers-is (w.in_ok-numbers.ensures.count ∙ ap length w.deref.ensures.value ∙ old.count);
            groups = λ n rows x kept g.
                let low : k < n = grind (arith, c.requires.within k has, kept.width) in
                let before : Attributes = union x (intersection set (below k)) in
                rw w.numbers-is
                (same_groups rows (union before (only k)) (union x (intersection set (below (k + 1)))) _
                (union-assoc x (intersection set (below k)) (only k) ∙ ap (union x) (intersection_in set k has))
                (w.in_ok-numbers.ensures.groups rows before k
                (subst (AreGroups rows before) (sym w.deref.ensures.value) (old.groups n rows x kept g))
                (subst (AreGroups rows (only k)) (sym w.column.ensures.codes) (kept.codes k low))));
          }
      | else-contains w ↦
          let lacks : set k ≡ false = sym c.contains.ensures.member ∙ w.if-contains.false in
          record {
            count = rw w.numbers-is old.count;
            groups = λ n rows x kept g. rw w.numbers-is
                (same_groups rows (union x (intersection set (below k))) (union x (intersection set (below (k + 1)))) _ (ap (union x) (intersection_out set k lacks)) (old.groups n rows x kept g));
          }
    ]

pub returns-clause-groups : goal.returns-clause-groups
returns-clause-groups c = λ n rows x kept g.
    let set : Attributes = attributes c.args.set in
    let end : 128 ≡ c.loop-attribute.attribute = omega (arith, c.loop-attribute-test.false, c.loop-attribute.auto.attribute-end) in
    let within : IsSubset set (below c.loop-attribute.attribute) = subst (λ (m : ℕ). IsSubset set (below m)) end (attributes_below c.args.set) in
    same_groups rows (union x (intersection set (below c.loop-attribute.attribute))) (union x set) _ (ap (union x) (intersection_all set c.loop-attribute.attribute within)) (c.loop-attribute.invariant.groups n rows x kept g)

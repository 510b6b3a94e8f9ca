-- What is left to prove of `AttrSet::intersects`: its clauses `intersects` and `test`, by
-- `AttributesLemmas`.
use Rattle.std.proofs.Common.{◌≡◌, ◌∙◌, false, not, sym, ap, inl, inr, ⊎_elim, arith}
use Rattle.std.proofs.lemmas.Bool.{true≢false, not-true, cases_Bool, not_from_false}
use Rattle.attr_sets.specs.Sets.{attributes, is_disjoint}
use Rattle.attr_sets.specs.declared.set.TheConstants.{MOST_ATTRIBUTES}
use Rattle.attr_sets.proofs.AttributesLemmas.{attributes_below, tell_apart, is_disjoint-from, is_disjoint-not, same_at}
use Rattle.attr_sets.proofs.set.AttrSet.intersects.Goals as goal

pub returns-clause-intersects : goal.returns-clause-intersects
returns-clause-intersects c = (
  (λ not_empty. ⊎_elim
      (λ common. common)
      (λ apart. absurd (true≢false (sym (c.is_empty.ensures.empty.1 (λ k. grind (arith, same_at c.intersection.ensures.members k, apart k))) ∙ not-true c.is_empty.result not_empty)))
      (tell_apart MOST_ATTRIBUTES (attributes c.args.self) (attributes c.args.other) (attributes_below c.args.self))),
  (λ common. elim (cases_Bool c.is_empty.result) [
    | inl none ↦ absurd (true≢false (grind (arith, common.1, common.2, same_at c.intersection.ensures.members common.0, c.is_empty.ensures.empty.0 none common.0)))
    | inr not_empty ↦ not_from_false c.is_empty.result not_empty
  ]),
)

pub returns-clause-test : goal.returns-clause-test
returns-clause-test c =
    let x = attributes c.args.self in
    let y = attributes c.args.other in
    ap not (⊎_elim
    (λ common. let apart : is_disjoint x y ≡ false = is_disjoint-not x y (attributes_below c.args.self) common in
    elim (cases_Bool c.is_empty.result) [
      | inl none ↦ absurd (true≢false (grind (arith, common.1, common.2, same_at c.intersection.ensures.members common.0, c.is_empty.ensures.empty.0 none common.0)))
      | inr not_empty ↦ not_empty ∙ sym apart
    ])
    (λ apart. c.is_empty.ensures.empty.1 (λ k. grind (arith, same_at c.intersection.ensures.members k, apart k)) ∙ sym (is_disjoint-from x y apart))
    (tell_apart MOST_ATTRIBUTES x y (attributes_below c.args.self)))

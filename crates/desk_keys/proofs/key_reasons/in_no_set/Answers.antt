-- What is left to prove of `in_no_set`: that the invariant of its loop holds at first and stays, and its
-- clause.
use Rattle.std.proofs.Common.{◌≡◌, ◌↔◌, ◌+◌, ℕ, true, false, List, [], ◌∷◌, ◌++◌, get_or, take, take_all, sym, ap, subst, ◌∙◌, arith}
use Rattle.std.proofs.lemmas.List.{take_more}
use Rattle.std.proofs.lemmas.List.Elements.{All-nil, All-head, All-more}
use Rattle.std.specs.Prelude.{All}
use Rattle.attr_sets.specs.Attributes.{Attributes, below}
use Rattle.attr_sets.specs.Sets.{attributes}
use Rattle.attr_sets.specs.declared.set.AttrSet.{AttrSet}
use Rattle.attr_sets.proofs.AttributesLemmas.{same_at}
use Rattle.min_cover.proofs.ListLemmas.{All-left, All-right}
use Rattle.desk_keys.proofs.key_reasons.in_no_set.Goals as goal

pub loop-set-init : goal.loop-set-init
loop-set-init c a =
    let is = same_at c.full-absent.ensures.members a in
    ((λ m. (sym is ∙ m, All-nil (λ (set : AttrSet). attributes set a ≡ false))), (λ h. is ∙ h.0))

pub loop-set-preserved : goal.loop-set-preserved
loop-set-preserved c a =
    let sets = c.args.sets.now in
    let i = c.loop-set.set-index in
    let zero : AttrSet = record { 0 = 0 } in
    let e = get_or sets i zero in
    let P : AttrSet → Type 0 = λ (set : AttrSet). attributes set a ≡ false in
    let before = c.loop-set.invariant a in
    let is = same_at c.difference-absent.ensures.members a in (
      (λ m.
          let old = before.0 (grind (arith, is, m)) in
          let here : attributes e a ≡ false = grind (arith, is, m) in
          (old.0, All-more P sets i zero c.loop-set-test.true old.1 here)),
      (λ h.
          let all : All P (take i sets ++ e ∷ []) = subst (λ (l : List AttrSet). All P l) (take_more sets i zero c.loop-set-test.true) h.1 in
          let old = before.1 (h.0, All-left P (take i sets) (e ∷ []) all) in
          let here : attributes e a ≡ false = All-head P e [] (All-right P (take i sets) (e ∷ []) all) in
          grind (arith, is, old, here)),
    )

pub returns : goal.returns
returns c = record {
  absent = λ a.
      subst (λ (l : List AttrSet). (attributes c.loop-set.absent a ≡ true) ↔ ((below c.args.width a ≡ true) × All (λ set. attributes set a ≡ false) l))
      (take_all c.loop-set.set-index c.args.sets.now c.loop-set-test.false) (c.loop-set.invariant a);
}

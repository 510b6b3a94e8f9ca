-- What is left to prove of `without_contained`: that a round of its loop keeps the invariant.
use Rattle.std.proofs.Common.{◌≡◌, ◌<◌, ◌≤◌, ◌+◌, true, false, List, take, drop, length, sym, ◌∙◌, subst, arith}
use Rattle.std.specs.Prelude.{slice_index_or}
use Rattle.std.proofs.lemmas.List.Edits.{length-remove}
use Rattle.attr_sets.specs.declared.set.AttrSet.{AttrSet}
use Rattle.plans.specs.Containing.{is_contained}
use Rattle.plans.proofs.LoopLemmas.{IsTriedTo, IsTriedTo-dropped, IsTriedTo-kept}
use Rattle.plans.proofs.containing.without_contained.Goals as goal

pub loop-i-preserved-then-is_contained_at : goal.loop-i-preserved-then-is_contained_at
loop-i-preserved-then-is_contained_at c =
    let items = c.loop-i.kept.items in
    let i = c.loop-i.i in
    let x = c.remove.result in
    let lt : i < length items = omega arith in
    let fact = c.is_contained_at.ensures.contained x in
    let spare : is_contained (take i items) (slice_index_or items i x) (drop (i + 1) items) ≡ true = subst (λ (xs : List AttrSet). is_contained (take i xs) (slice_index_or xs i x) (drop (i + 1) xs) ≡ true) c.deref.ensures.value (sym fact ∙ c.if-is_contained_at.true) in
    record {
      within = subst (λ (xs : List AttrSet). i ≤ length xs) (sym c.remove.ensures.items) (omega (arith, length-remove items i lt, lt));
      tried = subst (λ (xs : List AttrSet). IsTriedTo c.args.schemes.items xs i) (sym c.remove.ensures.items) (IsTriedTo-dropped c.args.schemes.items items i x lt c.loop-i.invariant.tried spare);
    }

pub loop-i-preserved : goal.loop-i-preserved
loop-i-preserved c =
    let items = c.loop-i.kept.items in
    let i = c.loop-i.i in
    let lt : i < length items = omega arith in
    let x : AttrSet = record { 0 = 0 } in
    let fact = c.is_contained_at.ensures.contained x in
    let stays : is_contained (take i items) (slice_index_or items i x) (drop (i + 1) items) ≡ false = subst (λ (xs : List AttrSet). is_contained (take i xs) (slice_index_or xs i x) (drop (i + 1) xs) ≡ false) c.deref.ensures.value (sym fact ∙ c.if-is_contained_at.false) in
    record {
      within = omega (arith, lt);
      tried = IsTriedTo-kept c.args.schemes.items items i x lt c.loop-i.invariant.tried stays;
    }

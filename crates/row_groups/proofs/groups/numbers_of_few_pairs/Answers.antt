-- What is left to prove of `numbers_of_few_pairs`: its clause `numbered` and that its loop keeps the invariant, by
-- `one_pair_more`.
use Rattle.std.proofs.Common.{inl, inr, arith, ◌≡◌, ◌+◌, ◌∷◌, [], ℕ, List, length, refl, ap, subst, ◌∙◌}
use Rattle.std.proofs.lemmas.List.{length-append}
use Rattle.row_groups.specs.Numberings.{AreNumbered, number_at}
use Rattle.row_groups.proofs.PairLemmas.{one_pair_more}
use Rattle.row_groups.proofs.groups.numbers_of_few_pairs.Goals as goal
use Rattle.row_groups.proofs.groups.numbers_of_few_pairs.Goals.{then-number-count, else-number-count}

pub loop-i-preserved : goal.loop-i-preserved
loop-i-preserved c =
    let old = c.loop-i.invariant in
    let first : List ℕ = c.args.first.now in
    let second : List ℕ = c.args.second.now in
    let size = ap length c.in_ok-push.ensures.items ∙ length-append c.loop-i.numbers.items (c.in_ok-number.number ∷ []) ∙ ap (λ (m : ℕ). m + 1) old.one_each in
    elim c.if-number-count.branch [
      | then-number-count w ↦ record {
        even = c.in_ok-number.ensures.even;
        few = rw w.count-is (omega (arith, old.few));
        one_each = size;
        so_far = λ order. rw w.count-is (one_pair_more first second c.loop-i.i _ _ _ _ _ _ c.loop-i.count _ c.in_ok-number.number c.loop-i.numbers.items _
            order c.loop-i-test.true (old.so_far order) c.in_ok-number.ensures.kept c.in_ok-number.ensures.longer c.in_ok-number.ensures.has_lead
            c.in_ok-push.ensures.items (inl (w.if-number-count.true, refl)));
      }
      | else-number-count w ↦ record {
        even = c.in_ok-number.ensures.even;
        few = rw w.count-is (omega (arith, old.few));
        one_each = size;
        so_far = λ order. rw w.count-is (one_pair_more first second c.loop-i.i _ _ _ _ _ _ c.loop-i.count _ c.in_ok-number.number c.loop-i.numbers.items _
            order c.loop-i-test.true (old.so_far order) c.in_ok-number.ensures.kept c.in_ok-number.ensures.longer c.in_ok-number.ensures.has_lead
            c.in_ok-push.ensures.items (inr (w.if-number-count.false, refl)));
      }
    ]

pub returns-clause-numbered : goal.returns-clause-numbered
returns-clause-numbered c = λ order.
    let end : c.loop-i.i ≡ length c.args.first.now = omega (arith, c.loop-i-test.false, c.loop-i.auto.i-end) in
    let so_far = c.loop-i.invariant.so_far order in (
      so_far.seen,
      subst (λ (n : ℕ). AreNumbered (λ i. (number_at c.args.first.now i, number_at c.args.second.now i)) n so_far.seen c.loop-i.numbers.items) end so_far.numbered,
    )

-- What is left to prove of `numbers_by_leaders`: that a round of its loop keeps the invariant, by `first_led` and
-- `later_led`, and its clause.
use Rattle.std.proofs.Common.{arith, ◌≡◌, ◌<◌, ◌+◌, ◌∷◌, ◌++◌, [], ℕ, List, length, length-append, ap, subst, ◌∙◌}
use Rattle.row_groups.specs.Numberings.{AreNumbered, number_at}
use Rattle.row_groups.proofs.LeaderLemmas.{first_led, later_led}
use Rattle.dep_model.proofs.ListLemmas.{same_default}
use Rattle.row_groups.proofs.leaders.numbers_by_leaders.Goals as goal
use Rattle.row_groups.proofs.leaders.numbers_by_leaders.Goals.{then-leader-row+in_ok-push, else-leader-row+in_ok-push-2}

pub loop-row-preserved : goal.loop-row-preserved
loop-row-preserved c =
    let old = c.loop-row.invariant in
    let row : ℕ = c.loop-row.row in
    let numbers : List ℕ = c.loop-row.numbers.items in
    elim c.if-leader-row.branch [
      | then-leader-row+in_ok-push w ↦ record {
        one_each = rw w.numbers-is (ap length w.in_ok-push.ensures.items ∙ length-append numbers (c.loop-row.count ∷ []) ∙ ap (λ (k : ℕ). k + 1) old.one_each);
        few = rw w.count-is (omega (arith, old.few));
        values = λ value led. rw (w.numbers-is, w.count-is)
            (first_led value c.args.leaders.now led row c.loop-row.count numbers _ (omega (arith, c.loop-row-test.true))
            w.if-leader-row.true (old.values value led) w.in_ok-push.ensures.items);
        pairs = λ value led. rw (w.numbers-is, w.count-is)
            (first_led value c.args.leaders.now led row c.loop-row.count numbers _ (omega (arith, c.loop-row-test.true))
            w.if-leader-row.true (old.pairs value led) w.in_ok-push.ensures.items);
      }
      | else-leader-row+in_ok-push-2 w ↦
          let leader : ℕ = number_at c.args.leaders.now row in
          let low : leader < length numbers =
          omega (arith, c.requires.no_later row (omega (arith, c.loop-row-test.true)), w.if-leader-row.false, old.one_each) in
          let read : w.index-number.result.now ≡ number_at numbers leader =
          w.index-number.ensures ∙ same_default numbers leader w.index-number.result.now 0 low in
          record {
            one_each = rw w.numbers-is (ap length w.in_ok-push-2.ensures.items ∙ length-append numbers (_ ∷ []) ∙ ap (λ (k : ℕ). k + 1) old.one_each);
            few = rw w.count-is (omega (arith, old.few));
            values = λ value led. rw (w.numbers-is, w.count-is)
                (later_led value c.args.leaders.now led row c.loop-row.count numbers _ (omega (arith, c.loop-row-test.true))
                w.if-leader-row.false (old.values value led)
                (w.in_ok-push-2.ensures.items ∙ ap (λ (r : ℕ). numbers ++ r ∷ []) read));
            pairs = λ value led. rw (w.numbers-is, w.count-is)
                (later_led value c.args.leaders.now led row c.loop-row.count numbers _ (omega (arith, c.loop-row-test.true))
                w.if-leader-row.false (old.pairs value led)
                (w.in_ok-push-2.ensures.items ∙ ap (λ (r : ℕ). numbers ++ r ∷ []) read));
          }
    ]

pub returns : goal.returns
returns c =
    let end : c.loop-row.row ≡ length c.args.leaders.now = omega (arith, c.loop-row-test.false, c.loop-row.auto.row-end) in
    record {
      values = λ value led.
          let so_far = c.loop-row.invariant.values value led in (
            so_far.seen,
            subst (λ (n : ℕ). AreNumbered value n so_far.seen c.loop-row.numbers.items) end so_far.numbered,
          );
      pairs = λ value led.
          let so_far = c.loop-row.invariant.pairs value led in (
            so_far.seen,
            subst (λ (n : ℕ). AreNumbered value n so_far.seen c.loop-row.numbers.items) end so_far.numbered,
          );
    }

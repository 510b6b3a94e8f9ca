-- What is left to prove of `first_rows`: that a round of its loop keeps the invariant, by
-- `new_first` and `old_first`.
use Rattle.std.proofs.Common.{arith, ◌≡◌, length}
use Rattle.row_groups.proofs.NumberingLemmas.{new_first, old_first}
use Rattle.row_groups.proofs.groups.first_rows.Goals as goal
use Rattle.row_groups.proofs.groups.first_rows.Goals.{then-numbers-i+in_ok-push, else-numbers-i}

pub loop-i-preserved : goal.loop-i-preserved
loop-i-preserved c =
    let count : c.len.result ≡ length c.loop-i.firsts.items = omega (arith, c.len.ensures, c.loop-i.firsts.ok.0) in
    elim c.if-numbers-i.branch [
      | then-numbers-i+in_ok-push w ↦ record {
        so_far = λ order. rw w.firsts-is
            (new_first c.args.numbers.now c.loop-i.firsts.items _ c.loop-i.i (c.loop-i.invariant.so_far order) (omega (arith, w.if-numbers-i.true, count)) w.in_ok-push.ensures.items);
      }
      | else-numbers-i w ↦ record {
        so_far = λ order. rw w.firsts-is
            (old_first c.args.numbers.now c.loop-i.firsts.items c.loop-i.i (c.loop-i.invariant.so_far order) order c.loop-i-test.true (λ e. omega (arith, e, w.if-numbers-i.false, count)));
      }
    ]

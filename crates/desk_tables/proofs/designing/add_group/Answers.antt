-- What is left to prove of `add_group`: that a round of its loop keeps the invariant, and that it then has seen all
-- numbers.
use Rattle.std.proofs.Common.{◌≡◌, ◌+◌, ◌<◌, ◌≤◌, ℕ, true, List, [], ◌∷◌, ◌++◌, length, take, take_all, get_or, subst, ap₂, ◌∙◌}
use Rattle.design_order.proofs.GroupLemmas.{group_more, group_passed}
use Rattle.design_order.specs.Order.{with_number}
use Rattle.optional_tables.specs.Order.{positions_from}
use Rattle.desk_tables.proofs.DesigningLemmas.{as_many_positions, position_at}
use Rattle.desk_tables.proofs.designing.add_group.Goals as goal
use Rattle.desk_tables.proofs.designing.add_group.Goals.{then-numbers-k+in_ok-push, else-numbers-k}

pub loop-k-preserved : goal.loop-k-preserved
loop-k-preserved c =
    let number = c.args.number in
    let numbers = c.args.numbers.now in
    let positions : List ℕ = positions_from (λ (m : ℕ). true) 0 numbers in
    let k = c.loop-k.k in
    let old = c.args.order.now.items in
    let low : k < length positions = subst (λ (m : ℕ). k < m) (as_many_positions numbers) c.loop-k-test.true in
    let there : get_or positions k 0 ≡ k = position_at numbers k 0 c.loop-k-test.true in
    elim c.if-numbers-k.branch [
      | then-numbers-k+in_ok-push w ↦ rw (w.order-is, w.in_ok-push.ensures.items)
          (subst (λ (x : ℕ). c.loop-k.order.items ++ x ∷ [] ≡ old ++ with_number number (take (k + 1) positions) (take (k + 1) numbers))
          there
          (group_more number positions numbers k 0 0 old c.loop-k.order.items (as_many_positions numbers) low
          w.if-numbers-k.true c.loop-k.invariant))
      | else-numbers-k w ↦ rw w.order-is
          (group_passed number positions numbers k 0 0 old c.loop-k.order.items (as_many_positions numbers) low
          w.if-numbers-k.false c.loop-k.invariant)
    ]

pub returns : goal.returns
returns c =
    let number = c.args.number in
    let numbers = c.args.numbers.now in
    let positions : List ℕ = positions_from (λ (m : ℕ). true) 0 numbers in
    let k = c.loop-k.k in
    let past : length positions ≤ k = subst (λ (m : ℕ). m ≤ k) (as_many_positions numbers) c.loop-k-test.false in
    record {
      added =
          c.loop-k.invariant
          ∙ ap₂ (λ (xs ms : List ℕ). c.args.order.now.items ++ with_number number xs ms)
          (take_all k positions past) (take_all k numbers c.loop-k-test.false);
    }

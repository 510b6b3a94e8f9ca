-- What is left to prove of `CodeColumns::new`: that a round of its loop keeps the invariant, by
-- `orders_more`.
use Rattle.std.proofs.Common.{◌+◌, ◌∷◌, [], ℕ, List, length, slice_index_or, sym, ap, subst, ◌∙◌}
use Rattle.std.proofs.lemmas.List.{length-append}
use Rattle.row_groups.specs.Interning.{codes_at}
use Rattle.fd_discovery.specs.Leaders.{IsOrderOf}
use Rattle.fd_discovery.proofs.LeaderLemmas.{orders_more}
use Rattle.fd_discovery.proofs.table.CodeColumns.new.Goals as goal

pub loop-attribute-preserved : goal.loop-attribute-preserved
loop-attribute-preserved c =
    let old = c.loop-attribute.invariant in
    let items = c.in_ok-push.ensures.items in
    let order : List ℕ = c.in_ok-by_numbers.field-0 in
    let new : IsOrderOf (codes_at c.in_ok-codes.codes c.loop-attribute.attribute) order =
    subst (λ (l : List ℕ). IsOrderOf l order) c.column.ensures.codes c.in_ok-by_numbers.ensures.order in
    record {
      one_each = ap length items ∙ length-append c.loop-attribute.orders.items (order ∷ [])
          ∙ ap (λ (m : ℕ). m + 1) old.one_each;
      orders = λ k l. subst (λ (os : List (List ℕ)). IsOrderOf (codes_at c.in_ok-codes.codes k)
          (slice_index_or os k [])) (sym items)
          (orders_more (λ (j : ℕ) (o : List ℕ). IsOrderOf (codes_at c.in_ok-codes.codes j) o)
          c.loop-attribute.orders.items order c.loop-attribute.attribute old.one_each old.orders new k l);
    }

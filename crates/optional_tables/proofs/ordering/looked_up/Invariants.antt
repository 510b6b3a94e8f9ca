-- What the loop of `looked_up` keeps: what is joined, the order so far with what will follow it, that the positions are
-- there, and how many are left.
use Rattle.std.proofs.Common.{◌≡◌, ◌+◌, ◌++◌, ◌<◌, ℕ, length}
use Rattle.std.specs.Prelude.{All}
use Rattle.attr_sets.specs.Sets.{attributes}
use Rattle.optional_tables.specs.Order.{look_up_order, looked_up_next, members_at}
use Rattle.optional_tables.proofs.OrderLemmas.{joined_after}
use Rattle.optional_tables.proofs.ordering.looked_up.Given as goal

abbrev pub invariant-loop-round : goal.invariant-loop-round
invariant-loop-round l = record {
  joined : members_at l.tables (joined_after (attributes l.nullable) l.tables l.order.items) ≡ l.joined.items;
  order : l.order.items
      ++ looked_up_next (attributes l.nullable) l.tables (length l.left.items)
      (joined_after (attributes l.nullable) l.tables l.order.items) l.left.items
      ≡ look_up_order (attributes l.nullable) l.tables;
  within : All (λ (k : ℕ). k < length l.tables) l.left.items;
  count : length l.left.items + l._round ≡ length l.fn.waiting.items;
}

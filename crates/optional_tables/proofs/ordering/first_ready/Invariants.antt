-- What the loop of `first_ready` keeps, in terms of `put_first`: none of those before is ready.
use Rattle.std.proofs.Common.{◌≡◌, ℕ, List, [], take, drop}
use Rattle.attr_sets.specs.Sets.{attributes}
use Rattle.dep_model.specs.JoinOrders.{put_first}
use Rattle.optional_tables.specs.Order.{is_ready_at, members_at}
use Rattle.optional_tables.proofs.ordering.first_ready.Given as goal

abbrev pub invariant-loop-i : goal.invariant-loop-i
invariant-loop-i l =
    (positions : List ℕ) → members_at l.tables positions ≡ l.joined
    → put_first (is_ready_at (attributes l.nullable) l.tables positions) (take l.i l.left) (drop l.i l.left)
    ≡ put_first (is_ready_at (attributes l.nullable) l.tables positions) [] l.left

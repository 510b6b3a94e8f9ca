-- What the loop of `CodeColumns::new` keeps: `one_each` and `orders`.
use Rattle.std.proofs.Common.{◌≡◌, ◌<◌, ℕ, [], length, slice_index_or}
use Rattle.row_groups.specs.Interning.{codes_at}
use Rattle.fd_discovery.specs.Leaders.{IsOrderOf}
use Rattle.fd_discovery.proofs.table.CodeColumns.new.Given as goal

-- the columns so far have their orders
abbrev pub invariant-loop-attribute : goal.invariant-loop-attribute
invariant-loop-attribute l = record {
  one_each : length l.orders.items ≡ l.attribute;
  orders : (k : ℕ) → k < l.attribute → IsOrderOf (codes_at l.codes k) (slice_index_or l.orders.items k []);
}

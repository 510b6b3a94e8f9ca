-- What the loop of `columns_in_order` keeps, in terms of `order_of`.
use Rattle.std.proofs.Common.{◌≡◌}
use Rattle.csv_rows.specs.Columns.{order_of}
use Rattle.csv_rows.proofs.header.columns_in_order.Given as goal

abbrev pub invariant-loop-attribute : goal.invariant-loop-attribute
invariant-loop-attribute l = record { so_far : l.order.items ≡ order_of l.attribute l.columns }

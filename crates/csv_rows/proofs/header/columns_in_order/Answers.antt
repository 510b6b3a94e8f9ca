-- What is left to prove of `columns_in_order`: that the invariant of its loop holds at first and
-- stays, by `order_more` and `order_same`.
use Rattle.std.proofs.Common.{sym, ◌∙◌}
use Rattle.dep_model.specs.Projections.{members_below}
use Rattle.csv_rows.proofs.HeaderLemmas.{order_more, order_same}
use Rattle.csv_rows.proofs.header.columns_in_order.Goals as goal
use Rattle.csv_rows.proofs.header.columns_in_order.Goals.{in-Some+in_ok-push-in-Some, in-None}

pub loop-attribute-init : goal.loop-attribute-init
unfolding members_below
loop-attribute-init c = record { so_far = c.new-order.ensures.items }

pub loop-attribute-preserved : goal.loop-attribute-preserved
loop-attribute-preserved c = elim c.match-first_column_of.branch [
  | in-Some+in_ok-push-in-Some w ↦
      record { so_far = rw w.order-is (w.in_ok-push-in-Some.ensures.items ∙ order_more _ _ _ _ c.loop-attribute.invariant.so_far (sym w.in-Some.ensures.column)) }
  | in-None w ↦
      record { so_far = rw w.order-is (order_same _ _ _ c.loop-attribute.invariant.so_far (sym w.in-None.ensures.column)) }
]

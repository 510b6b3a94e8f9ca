-- What the loop of `in_order` keeps, in terms of `grouped_below`.
use Rattle.std.proofs.Common.{◌≡◌, true}
use Rattle.design_order.specs.Order.{grouped_below}
use Rattle.optional_tables.specs.Order.{positions_from}
use Rattle.desk_tables.proofs.designing.in_order.Given as goal

abbrev pub invariant-loop-number : goal.invariant-loop-number
invariant-loop-number l = l.order.items ≡ grouped_below l.number (positions_from (λ _. true) 0 l.numbers) l.numbers

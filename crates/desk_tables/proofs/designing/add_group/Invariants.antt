-- What the loop of `add_group` keeps, in terms of `with_number`.
use Rattle.std.proofs.Common.{◌≡◌, ◌++◌, take, true}
use Rattle.design_order.specs.Order.{with_number}
use Rattle.optional_tables.specs.Order.{positions_from}
use Rattle.desk_tables.proofs.designing.add_group.Given as goal

abbrev pub invariant-loop-k : goal.invariant-loop-k
invariant-loop-k l =
    l.order.items ≡ l.fn.order.items
    ++ with_number l.number (take l.k (positions_from (λ _. true) 0 l.numbers)) (take l.k l.numbers)

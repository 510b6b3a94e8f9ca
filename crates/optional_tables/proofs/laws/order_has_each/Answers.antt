-- The law `order_has_each`, by `order_moved`.
use Rattle.optional_tables.proofs.OrderLemmas.{order_moved}
use Rattle.optional_tables.proofs.laws.order_has_each.Goals as goal

pub returns : goal.returns
returns c = record { law = order_moved }

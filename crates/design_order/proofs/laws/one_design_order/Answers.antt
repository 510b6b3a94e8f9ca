-- The law `one_design_order`, by `one_order`.
use Rattle.design_order.proofs.OrderLemmas.{one_names, one_order}
use Rattle.design_order.proofs.laws.one_design_order.Goals as goal

pub returns : goal.returns
returns c = record { law = one_order; names = one_names }

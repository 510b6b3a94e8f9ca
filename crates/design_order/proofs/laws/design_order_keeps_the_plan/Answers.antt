-- The laws `design_order_keeps_the_plan`, clause by clause.
use Rattle.design_order.proofs.OrderLemmas.{order-member, order-keeps, fewest_first, order-lossless}
use Rattle.design_order.proofs.laws.design_order_keeps_the_plan.Goals as goal

pub returns : goal.returns
returns c = record {
  same = λ n ds plan ordered is scheme.
      (order-member n ds plan ordered is scheme, order-keeps n ds plan ordered is scheme);
  ascending = fewest_first;
  lossless = order-lossless;
}

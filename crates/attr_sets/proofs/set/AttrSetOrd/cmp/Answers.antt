-- What is left to prove of `AttrSetOrd::cmp`: its clause `order`, by `cmp-order`.
use Rattle.std.proofs.Common.{arith}
use Rattle.attr_sets.proofs.OrderLemmas.{cmp-order}
use Rattle.attr_sets.proofs.set.AttrSetOrd.cmp.Goals as goal

pub returns-clause-order : goal.returns-clause-order
returns-clause-order c = rw c.cmp.ensures (cmp-order c.args.self.now c.args.other.now (omega arith) (omega arith))

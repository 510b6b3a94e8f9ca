-- What is left to prove of `AttrSetPartialEq::eq`: its clauses `same` and `test`, by
-- `AttributesLemmas`.
use Rattle.std.proofs.Common.{arith}
use Rattle.std.proofs.lemmas.Bool.Decides.{same_from_decides}
use Rattle.attr_sets.specs.Sets.{attributes}
use Rattle.attr_sets.proofs.AttributesLemmas.{same_number-decides, is_same-decides, attributes_below}
use Rattle.attr_sets.proofs.set.AttrSetPartialEq.eq.Goals as goal

pub returns-clause-same : goal.returns-clause-same
returns-clause-same c = same_number-decides c.args.self.now c.args.other.now (omega arith) (omega arith)

pub returns-clause-test : goal.returns-clause-test
returns-clause-test c =
    same_from_decides _ _ (same_number-decides c.args.self.now c.args.other.now (omega arith) (omega arith))
    (is_same-decides (attributes c.args.self.now) (attributes c.args.other.now) (attributes_below c.args.self.now) (attributes_below c.args.other.now))

-- What is left to prove of `AttrSet::is_subset`: its clauses `subset` and `test`, by
-- `AttributesLemmas` and `BitLemmas`.
use Rattle.std.proofs.Common.{arith}
use Rattle.std.specs.Int.{w128}
use Rattle.std.proofs.lemmas.Bool.Decides.{same_from_decides}
use Rattle.attr_sets.specs.Sets.{attributes}
use Rattle.attr_sets.proofs.BitLemmas.{and_not-zero}
use Rattle.attr_sets.proofs.AttributesLemmas.{attributes_below, is_subset-decides}
use Rattle.attr_sets.proofs.set.AttrSet.is_subset.Goals as goal

pub returns-clause-subset : goal.returns-clause-subset
unfolding attributes
returns-clause-subset c = and_not-zero w128 c.args.self.0 c.args.other.0 (omega arith) (omega arith)

pub returns-clause-test : goal.returns-clause-test
unfolding attributes
returns-clause-test c =
    same_from_decides _ _ (and_not-zero w128 c.args.self.0 c.args.other.0 (omega arith) (omega arith))
    (is_subset-decides (attributes c.args.self) (attributes c.args.other) (attributes_below c.args.self))

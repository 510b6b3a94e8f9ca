-- What is left to prove of `AttrSet::len`: its clause `members`, by `count_ones-count_below`.
use Rattle.std.proofs.Common.{arith}
use Rattle.attr_sets.specs.Sets.{attributes}
use Rattle.attr_sets.specs.declared.set.TheConstants.{MOST_ATTRIBUTES}
use Rattle.attr_sets.proofs.BitLemmas.{count_ones-count_below}
use Rattle.attr_sets.proofs.set.AttrSet.len.Goals as goal

pub returns-clause-members : goal.returns-clause-members
unfolding attributes
returns-clause-members c = count_ones-count_below MOST_ATTRIBUTES c.args.self.0 (omega arith)

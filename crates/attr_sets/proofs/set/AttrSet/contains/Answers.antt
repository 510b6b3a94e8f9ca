-- What is left to prove of `AttrSet::contains`: its clause `member`, by `has_bit-shr`.
use Rattle.std.proofs.Common.{arith}
use Rattle.attr_sets.specs.Sets.{attributes}
use Rattle.attr_sets.specs.declared.set.TheConstants.{MOST_ATTRIBUTES}
use Rattle.attr_sets.proofs.BitLemmas.{has_bit-shr}
use Rattle.attr_sets.proofs.set.AttrSet.contains.Goals as goal

pub returns : goal.returns
unfolding attributes
returns c = record { member = has_bit-shr MOST_ATTRIBUTES c.args.self.0 c.args.i (omega arith) }

-- What is left to prove of `AttrSet::difference`: its clause `members`, by `has_bit-and_not`.
use Rattle.std.proofs.Common.{arith}
use Rattle.std.specs.Int.{w128}
use mathlib.Core.Path.{fun_ext}
use Rattle.attr_sets.specs.Sets.{attributes}
use Rattle.attr_sets.proofs.BitLemmas.{has_bit-and_not}
use Rattle.attr_sets.proofs.set.AttrSet.difference.Goals as goal

pub returns : goal.returns
unfolding attributes
returns c = record { members = fun_ext (λ k. has_bit-and_not w128 c.args.self.0 c.args.other.0 k (omega arith)) }

-- What is left to prove of `AttrSet::single`: its clause `members`, by `has_bit-shl_one`.
use Rattle.std.proofs.Common.{arith}
use Rattle.std.specs.Int.{w128}
use mathlib.Core.Path.{fun_ext}
use Rattle.attr_sets.specs.Sets.{attributes}
use Rattle.attr_sets.proofs.BitLemmas.{has_bit-shl_one}
use Rattle.attr_sets.proofs.set.AttrSet.single.Goals as goal

pub returns : goal.returns
unfolding attributes
returns c = record { members = fun_ext (λ k. has_bit-shl_one w128 c.args.i k (omega arith)) }

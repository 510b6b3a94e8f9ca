-- What is left to prove of `AttrSet::with`: its clause `members`, by `has_bit-set`.
use Rattle.std.proofs.Common.{arith}
use Rattle.std.specs.Int.{w128}
use mathlib.Core.Path.{fun_ext}
use Rattle.attr_sets.specs.Sets.{attributes}
use Rattle.attr_sets.proofs.BitLemmas.{has_bit-set}
use Rattle.attr_sets.proofs.set.AttrSet.with.Goals as goal

pub returns : goal.returns
unfolding attributes
returns c = record { members = fun_ext (λ k. has_bit-set w128 c.args.self.0 c.args.i k (omega arith)) }

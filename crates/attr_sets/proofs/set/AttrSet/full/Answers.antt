-- What is left to prove of `AttrSet::full`: what it answers, case by case, by `has_bit-zero` and
-- `has_bit-shr_ones`.
use Rattle.std.proofs.Common.{arith}
use Rattle.std.proofs.lemmas.Bool.Decides.{nat_tests}
use mathlib.Core.Path.{fun_ext}
use Rattle.attr_sets.specs.Sets.{attributes}
use Rattle.attr_sets.specs.declared.set.TheConstants.{MOST_ATTRIBUTES}
use Rattle.attr_sets.proofs.BitLemmas.{has_bit-zero, has_bit-shr_ones}
use Rattle.attr_sets.proofs.set.AttrSet.full.Goals as goal

pub returns-then-n-eq0 : goal.returns-then-n-eq0
unfolding attributes
returns-then-n-eq0 c = record { members = fun_ext (λ k. grind (arith, nat_tests, has_bit-zero MOST_ATTRIBUTES k)) }

pub returns-else-n-eq0 : goal.returns-else-n-eq0
unfolding attributes
returns-else-n-eq0 c = record { members = fun_ext (λ k. has_bit-shr_ones MOST_ATTRIBUTES c.args.n k (omega arith)) }

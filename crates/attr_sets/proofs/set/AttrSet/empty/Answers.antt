-- What is left to prove of `AttrSet::empty`: its clause `members`, by `has_bit-zero`.
use mathlib.Core.Path.{fun_ext}
use Rattle.attr_sets.specs.Sets.{attributes}
use Rattle.attr_sets.specs.declared.set.TheConstants.{MOST_ATTRIBUTES}
use Rattle.attr_sets.proofs.BitLemmas.{has_bit-zero}
use Rattle.attr_sets.proofs.set.AttrSet.empty.Goals as goal

pub returns : goal.returns
unfolding attributes
returns c = record { members = fun_ext (has_bit-zero MOST_ATTRIBUTES) }

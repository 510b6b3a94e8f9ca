-- What is left to prove of `AttrSet::union`: its clause `members`, by `has_bit-or`.
use mathlib.Core.Path.{fun_ext}
use Rattle.attr_sets.specs.Sets.{attributes}
use Rattle.attr_sets.specs.declared.set.TheConstants.{MOST_ATTRIBUTES}
use Rattle.attr_sets.proofs.BitLemmas.{has_bit-or}
use Rattle.attr_sets.proofs.set.AttrSet.union.Goals as goal

pub returns : goal.returns
unfolding attributes
returns c = record { members = fun_ext (has_bit-or MOST_ATTRIBUTES c.args.self.0 c.args.other.0) }

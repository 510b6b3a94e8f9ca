-- What is left to prove of `AttrSet::first`: its clauses `none` and `first`, by `BitLemmas`.
use Rattle.std.proofs.Common.{arith, refl, ap, ◌∙◌}
use Rattle.std.specs.Int.{w128}
use Rattle.attr_sets.specs.Sets.{has_bit, attributes}
use Rattle.attr_sets.specs.declared.set.TheConstants.{MOST_ATTRIBUTES}
use Rattle.attr_sets.proofs.BitLemmas.{has_bit-zero, trailing_zeros-least, zero_from_has_bit}
use Rattle.attr_sets.proofs.set.AttrSet.first.Goals as goal

pub returns-then-self-eq0-clause-none : goal.returns-then-self-eq0-clause-none
unfolding attributes
returns-then-self-eq0-clause-none c = (λ _ k. ap (λ n. has_bit MOST_ATTRIBUTES n k) c.if-self-eq0.true ∙ has_bit-zero MOST_ATTRIBUTES k, λ _. refl)

pub returns-else-self-eq0-clause-none : goal.returns-else-self-eq0-clause-none
unfolding attributes
returns-else-self-eq0-clause-none c = (λ e. cc, λ empty. absurd (c.if-self-eq0.false (zero_from_has_bit MOST_ATTRIBUTES c.args.self.0 (omega arith) empty)))

pub returns-else-self-eq0-clause-first : goal.returns-else-self-eq0-clause-first
unfolding attributes
returns-else-self-eq0-clause-first c = trailing_zeros-least w128 c.args.self.0 (omega arith) (omega arith)

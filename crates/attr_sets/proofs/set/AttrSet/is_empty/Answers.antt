-- What is left to prove of `AttrSet::is_empty`: its clause `empty`, by `has_bit-zero` and
-- `zero_from_has_bit`.
use Rattle.std.proofs.Common.{◌∙◌, ap, arith}
use Rattle.std.proofs.lemmas.Bool.{eqb-true, eq-eqb}
use Rattle.attr_sets.specs.Sets.{has_bit, attributes}
use Rattle.attr_sets.specs.declared.set.TheConstants.{MOST_ATTRIBUTES}
use Rattle.attr_sets.proofs.BitLemmas.{has_bit-zero, zero_from_has_bit}
use Rattle.attr_sets.proofs.set.AttrSet.is_empty.Goals as goal

pub returns : goal.returns
unfolding attributes
returns c = record {
  empty = (
    (λ zero k. ap (λ n. has_bit MOST_ATTRIBUTES n k) (eqb-true c.args.self.0 0 zero) ∙ has_bit-zero MOST_ATTRIBUTES k),
    (λ empty. eq-eqb c.args.self.0 0 (zero_from_has_bit MOST_ATTRIBUTES c.args.self.0 (omega arith) empty)),
  );
}

-- What is left to prove of `least_in_key`: that the key has such an attribute, and that it is the least.
use Rattle.std.proofs.Common.{refl}
use Rattle.attr_sets.specs.Sets.{attributes}
use Rattle.missing_values.proofs.FindingLemmas.{least_of_stuck, some_in_stuck}
use Rattle.missing_values.proofs.finding.least_in_key.Goals as goal

pub unreachable-requires : goal.unreachable-requires
unreachable-requires c =
    some_in_stuck (attributes c.args.nullable) c.args.tables.now c.args.k c.requires.stuck
    (attributes c.intersection.result) c.intersection.ensures.members (c.in-None.ensures.none.0 refl)

pub returns : goal.returns
returns c = record {
  least = least_of_stuck (attributes c.args.nullable) c.args.tables.now c.args.k c.requires.stuck
      (attributes c.intersection.result) c.intersection.ensures.members c.in-Some.attribute c.in-Some.ensures.first;
}

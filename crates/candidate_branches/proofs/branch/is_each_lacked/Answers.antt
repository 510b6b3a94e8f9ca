-- What is left to prove of `is_each_lacked`: what its last answer says, by `LackLemmas`.
use Rattle.attr_sets.specs.Sets.{attributes}
use Rattle.candidate_branches.proofs.LackLemmas.{lacked_all, lacked_each}
use Rattle.candidate_branches.proofs.branch.is_each_lacked.Goals as goal

pub returns : goal.returns
returns c = record {
  lacked = (
    (λ yes. lacked_each c.args.evidence.now (attributes c.args.set) c.args.column c.loop-one.one-index (attributes c.loop-one.lacked) c.loop-one.invariant
        (c.is_subset-2.ensures.subset.0 yes)),
    (λ each. c.is_subset-2.ensures.subset.1
        (lacked_all c.args.evidence.now (attributes c.args.set) c.args.column c.loop-one.one-index (attributes c.loop-one.lacked) c.loop-one-test.false
        c.loop-one.invariant each)),
  );
}

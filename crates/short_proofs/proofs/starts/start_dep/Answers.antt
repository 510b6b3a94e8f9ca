-- What is left to prove of `start_dep`: what each step concludes, one after the other.
use Rattle.derivation.specs.Trees.{leaf, given, replication}
use Rattle.short_proofs.specs.Short.{taken}
use Rattle.short_proofs.proofs.starts.start_dep.Goals as goal

pub returns : goal.returns
returns c = record {
  only = c.step_taken.ensures.only (taken c.args.from.replicated replication (leaf (given c.args.from.number)))
      (c.step_taken-replica.ensures.only (leaf (given c.args.from.number)) c.given_dep-given.ensures.only);
}

-- What is left to prove of `spread_by_counts`: that a round of its loop keeps the invariant, by
-- `grows-further`.
use Rattle.attr_sets.specs.Sets.{attributes}
use Rattle.fd_closure.proofs.GrowthLemmas.{grows-further}
use Rattle.fd_closure.proofs.counting.spread_by_counts.Goals as goal

pub loop-preserved : goal.loop-preserved
loop-preserved c =
    grows-further c.args.deps.now (attributes c.args.from) (attributes c.loop.closed) (attributes c.add_ready_members-more.result) c.loop.invariant c.add_ready_members-more.ensures.grows

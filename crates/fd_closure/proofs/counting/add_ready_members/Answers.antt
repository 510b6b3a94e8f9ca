-- What is left to prove of `add_ready_members`: that a round of its loop keeps the invariant, by
-- `grows-further`.
use Rattle.attr_sets.specs.Sets.{attributes}
use Rattle.fd_closure.proofs.GrowthLemmas.{grows-further}
use Rattle.fd_closure.proofs.counting.add_ready_members.Goals.{then-misses_none, else-misses_none}
use Rattle.fd_closure.proofs.counting.add_ready_members.Goals as goal

pub loop-k-preserved : goal.loop-k-preserved
loop-k-preserved c = elim c.if-misses_none.branch [
  | then-misses_none w ↦ rw w.more-is (grows-further c.args.deps.now (attributes c.args.closed) (attributes c.loop-k.more) (attributes w.with_right_side_at-more.result) c.loop-k.invariant w.with_right_side_at-more.ensures.grows)
  | else-misses_none w ↦ rw w.more-is c.loop-k.invariant
]

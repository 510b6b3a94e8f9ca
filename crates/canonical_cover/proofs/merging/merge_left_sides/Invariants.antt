-- What the loop of `merge_left_sides` keeps, in terms of `AreMergedTo`.
use Rattle.canonical_cover.proofs.LoopLemmas.{AreMergedTo}
use Rattle.canonical_cover.proofs.merging.merge_left_sides.Given as goal

abbrev pub invariant-loop-k : goal.invariant-loop-k
invariant-loop-k l = AreMergedTo l.deps l.once.items l.k

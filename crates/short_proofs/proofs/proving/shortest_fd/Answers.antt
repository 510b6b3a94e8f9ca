-- What is left to prove of `shortest_fd`: where there is a functional chain, nothing is listed.
use Rattle.short_proofs.proofs.proving.shortest_fd.Goals as goal

pub returns-then-chained-clause-short : goal.returns-then-chained-clause-short
returns-then-chained-clause-short c = λ u listed proves. absurd (listed.0 (c.in_ok-chained.ensures.exact.0 c.if-chained.true))

pub returns-clause-short : goal.returns-clause-short
returns-clause-short c = λ u listed proves. c.in_ok-joined.ensures.short u listed.1 proves

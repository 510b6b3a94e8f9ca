-- What is left to prove of `decide`: what `decide_by` requires.
use Rattle.dep_basis.proofs.deciding.decide.Goals as goal

pub decide_by-requires-clause-deps : goal.decide_by-requires-clause-deps
decide_by-requires-clause-deps c = rw (c.deps.ensures.deps, c.width.ensures.count) c.args.theory.now.valid.deps_within

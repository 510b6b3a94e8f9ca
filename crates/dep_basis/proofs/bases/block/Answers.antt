-- What is left to prove of `block`: its clause `none` and what `block_by` requires.
use Rattle.dep_basis.proofs.bases.block.Goals as goal

pub block_by-requires-clause-deps : goal.block_by-requires-clause-deps
block_by-requires-clause-deps c = rw (c.deps.ensures.deps, c.width.ensures.count) c.args.theory.now.valid.deps_within

pub returns-clause-none : goal.returns-clause-none
returns-clause-none c = rw (c.deps.ensures.deps, c.width.ensures.count) at c.block_by.ensures.none

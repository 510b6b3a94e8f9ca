-- What is left to prove of `closure`: its clause `closure` and what `closure_by` requires.
use Rattle.dep_basis.proofs.bases.closure.Goals as goal

pub closure_by-requires-clause-deps : goal.closure_by-requires-clause-deps
closure_by-requires-clause-deps c = rw (c.deps.ensures.deps, c.width.ensures.count) c.args.theory.now.valid.deps_within

pub returns : goal.returns
returns c = record { closure = rw (c.deps.ensures.deps, c.width.ensures.count) at c.closure_by.ensures.closure }

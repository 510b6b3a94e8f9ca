-- What is left to prove of `basis`: what `basis_by` requires.
use Rattle.dep_basis.proofs.bases.basis.Goals as goal

pub basis_by-requires-clause-deps : goal.basis_by-requires-clause-deps
basis_by-requires-clause-deps c = rw (c.deps.ensures.deps, c.width.ensures.count) c.args.theory.now.valid.deps_within

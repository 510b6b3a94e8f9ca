-- What is left to prove of `has_two_parts`: what `has_two_parts_by` requires.
use Rattle.dep_basis.proofs.parts.has_two_parts.Goals as goal

pub has_two_parts_by-requires-clause-deps : goal.has_two_parts_by-requires-clause-deps
has_two_parts_by-requires-clause-deps c = rw (c.deps.ensures.deps, c.width.ensures.count) c.args.theory.now.valid.deps_within

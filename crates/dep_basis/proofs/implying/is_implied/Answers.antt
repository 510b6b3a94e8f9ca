-- What is left to prove of `is_implied`: its clause `implied` and what `is_implied_by` requires.
use Rattle.dep_basis.proofs.implying.is_implied.Goals as goal

pub is_implied_by-requires-clause-deps : goal.is_implied_by-requires-clause-deps
is_implied_by-requires-clause-deps c = rw (c.deps.ensures.deps, c.width.ensures.count) c.args.theory.now.valid.deps_within

pub returns : goal.returns
returns c = record { implied = rw (c.deps.ensures.deps, c.width.ensures.count) at c.is_implied_by.ensures.implied }

-- What is left to prove of `block_by`: its clause `none`.
use Rattle.std.proofs.Common.{refl}
use Rattle.dep_basis.proofs.bases.block_by.Goals as goal

pub returns-then-is_empty-clause-none : goal.returns-then-is_empty-clause-none
returns-then-is_empty-clause-none c = ((λ _. (c.requires.attribute, c.block_of-found.ensures.closed.0 (c.if-is_empty.ensures.empty.0 refl))), (λ _. refl))

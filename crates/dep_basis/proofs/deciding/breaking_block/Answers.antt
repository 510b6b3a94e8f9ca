-- What is left to prove of `breaking_block`: its clause `none`.
use Rattle.dep_basis.proofs.deciding.breaking_block.Goals as goal

pub returns-in-Fd-clause-none : goal.returns-in-Fd-clause-none
returns-in-Fd-clause-none c = rw c.in-Fd.is c.block_beyond.ensures.none

pub returns-in-Mvd-clause-none : goal.returns-in-Mvd-clause-none
returns-in-Mvd-clause-none c = rw c.in-Mvd.is c.block_split.ensures.none

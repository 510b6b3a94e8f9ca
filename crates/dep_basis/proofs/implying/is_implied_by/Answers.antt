-- What is left to prove of `is_implied_by`: what it answers in the case `Fd`.
use Rattle.dep_basis.proofs.implying.is_implied_by.Goals as goal

pub returns-in-Fd : goal.returns-in-Fd
returns-in-Fd c = rw c.in-Fd.is (record { implied = c.determines.ensures.implied })

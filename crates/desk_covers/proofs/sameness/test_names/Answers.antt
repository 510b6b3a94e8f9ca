-- What is left to prove of `test_names`: its clause `exit`.
use Rattle.std.proofs.Common.{inl, inr, refl}
use Rattle.desk_covers.proofs.sameness.test_names.Goals as goal

pub returns-in-Some-clause-exit : goal.returns-in-Some-clause-exit
returns-in-Some-clause-exit c = λ response is. inl (c.in-Some.attribute, c.in-Some.ensures.least, c.not_declared_exit.ensures.says response is)

pub returns-in-Some-first_undeclared-clause-exit : goal.returns-in-Some-first_undeclared-clause-exit
returns-in-Some-first_undeclared-clause-exit c = λ response is.
    inr (c.in_default.ensures.none.0 refl, (c.in-Some-first_undeclared.attribute, c.in-Some-first_undeclared.ensures.least, c.not_declared_exit-in-Some-first_undeclared.ensures.says response is))

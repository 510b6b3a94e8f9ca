-- What is left to prove of `check_derivation`: its clause `response`.
use Rattle.std.proofs.Common.{inl, inr}
use Rattle.dep_model.specs.Deps.{dependency_of}
use Rattle.desk_implication.proofs.checking.check_derivation.Goals as goal

pub returns-in-Err : goal.returns-in-Err
returns-in-Err c = record { response = λ response is. inl (c.in-Err.ensures.exit response is) }

pub returns : goal.returns
returns c = record { response = inr (dependency_of c.in-Ok.dep, c.in-Ok.ensures.ok, c.in_ok-derivation_response.ensures.response) }

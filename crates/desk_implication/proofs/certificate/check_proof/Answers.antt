-- What is left to prove of `check_proof`: its clause `response`.
use Rattle.std.proofs.Common.{inl, inr}
use Rattle.dep_model.specs.Deps.{dependency_of}
use Rattle.desk_implication.proofs.certificate.check_proof.Goals as goal

pub returns-in-Err : goal.returns-in-Err
returns-in-Err c = record { response = λ tree proves. λ response is. inl (c.in-Err.ensures.exit response is) }

pub returns : goal.returns
returns c = record { response = λ tree proves. inr (dependency_of c.in-Ok.dep, c.in-Ok.ensures.ok, c.in_ok-proof_response.ensures.response tree proves) }

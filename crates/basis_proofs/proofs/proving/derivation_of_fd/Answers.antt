-- What is left to prove of `derivation_of_fd`: its clause `direct`.
use Rattle.std.proofs.Common.{refl}
use Rattle.std.specs.Prelude.{IsSome}
use Rattle.basis_proofs.proofs.proving.derivation_of_fd.Goals as goal

pub returns-in-Some-clause-direct : goal.returns-in-Some-clause-direct
returns-in-Some-clause-direct c not = let found : IsSome c.in_ok-chain.field-0 = rw c.in-Some.is refl in absurd (not (c.in_ok-chain.ensures.found_where_implied.0 found))

-- The law `check_derivation_is_answered`, by `derivation_answered`.
use Rattle.desk_laws.proofs.DerivationLaws.{derivation_answered}
use Rattle.desk_laws.proofs.complete_derivations.check_derivation_is_answered.Goals as goal

pub returns : goal.returns
returns c = record { law = derivation_answered }

-- The law `printed_derivation_is_accepted`, by `derivation_accepted`.
use Rattle.desk_laws.proofs.AcceptedDerivations.{derivation_accepted}
use Rattle.desk_laws.proofs.accepted.printed_derivation_is_accepted.Goals as goal

pub returns : goal.returns
returns c = record { law = derivation_accepted }

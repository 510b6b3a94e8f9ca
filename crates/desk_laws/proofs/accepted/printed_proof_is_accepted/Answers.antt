-- What is left to prove of `printed_proof_is_accepted`: what it ensures, by `printed_accepted`.
use Rattle.desk_laws.proofs.AcceptedLaws.{printed_accepted}
use Rattle.desk_laws.proofs.accepted.printed_proof_is_accepted.Goals as goal

pub returns : goal.returns
returns c = record { law = printed_accepted }

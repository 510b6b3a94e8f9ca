-- The laws `rejoin_is_answered`, by `rejoin_answered` and `rejoin_answered_looking_up`.
use Rattle.desk_laws.proofs.FileLaws.{rejoin_answered, rejoin_answered_looking_up}
use Rattle.desk_laws.proofs.complete_tables.rejoin_is_answered.Goals as goal

pub returns : goal.returns
returns c = record { law = rejoin_answered; looking_up = rejoin_answered_looking_up }

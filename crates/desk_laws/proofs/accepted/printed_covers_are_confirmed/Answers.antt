-- The law `printed_covers_are_confirmed`, by `minimal_confirmed` and `canonical_confirmed`.
use Rattle.desk_laws.proofs.ConfirmedCovers.{canonical_confirmed, minimal_confirmed}
use Rattle.desk_laws.proofs.accepted.printed_covers_are_confirmed.Goals as goal

pub returns : goal.returns
returns c = record { minimal = minimal_confirmed; canonical = canonical_confirmed }

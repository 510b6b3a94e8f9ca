-- The law `homes_come_first`, by `homes_first`.
use Rattle.optional_laws.proofs.HomeLemmas.{homes_first}
use Rattle.optional_laws.proofs.homes_come_first.Goals as goal

pub returns : goal.returns
returns c = record { law = homes_first }

-- The law `offences_name_dependencies`, by `offences_named`.
use Rattle.legality.proofs.OffenceLaws.{offences_named}
use Rattle.legality.proofs.laws.offences_name_dependencies.Goals as goal

pub returns : goal.returns
returns c = record { law = offences_named }

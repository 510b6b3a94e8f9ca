-- The law `readable_in_any_order`, by `readable_moved`.
use Rattle.optional_laws.proofs.MovedLemmas.{readable_moved}
use Rattle.optional_laws.proofs.readable_in_any_order.Goals as goal

pub returns : goal.returns
returns c = record { law = readable_moved }

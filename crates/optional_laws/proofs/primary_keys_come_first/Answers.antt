-- The law `primary_keys_come_first`, by `first_key`.
use Rattle.optional_laws.proofs.KeyLemmas.{first_key}
use Rattle.optional_laws.proofs.primary_keys_come_first.Goals as goal

pub returns : goal.returns
returns c = record { law = first_key }

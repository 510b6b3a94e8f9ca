-- The law `undetermined_attributes_are_in_every_key`, by `in_every_key`.
use Rattle.implication_laws.proofs.EveryKeyLaws.{in_every_key}
use Rattle.implication_laws.proofs.explaining.undetermined_attributes_are_in_every_key.Goals as goal

pub returns : goal.returns
returns c = record { law = in_every_key }

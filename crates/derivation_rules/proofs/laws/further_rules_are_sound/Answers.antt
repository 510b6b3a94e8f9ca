-- The law `further_rules_are_sound`, by `further_sound`.
use Rattle.derivation_rules.proofs.SoundLemmas.{further_sound}
use Rattle.derivation_rules.proofs.laws.further_rules_are_sound.Goals as goal

pub returns : goal.returns
returns c = record { law = further_sound }

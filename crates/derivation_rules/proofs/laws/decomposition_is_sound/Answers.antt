-- The law `decomposition_is_sound`, by `decomposition_sound`.
use Rattle.derivation_rules.proofs.SoundLemmas.{decomposition_sound}
use Rattle.derivation_rules.proofs.laws.decomposition_is_sound.Goals as goal

pub returns : goal.returns
returns c = record { law = decomposition_sound }

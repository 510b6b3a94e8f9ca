-- The law `soundness`, by `proved_is_implied`.
use Rattle.derivation.proofs.SoundnessLemmas.{proved_is_implied}
use Rattle.derivation.proofs.laws.soundness.Goals as goal

pub returns : goal.returns
returns c = record { law = proved_is_implied }

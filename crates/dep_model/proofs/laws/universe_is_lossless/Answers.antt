-- The law `universe_is_lossless`, by `whole_lossless`.
use Rattle.dep_model.proofs.SchemeLemmas.{whole_lossless}
use Rattle.dep_model.proofs.laws.universe_is_lossless.Goals as goal

pub returns : goal.returns
returns c = record { law = λ n ds. whole_lossless n ds }

-- The law `near_texts_mean_their_schema`, by `near_means`.
use Rattle.implication_laws.proofs.NearTexts.{near_means}
use Rattle.implication_laws.proofs.discovering.near_texts_mean_their_schema.Goals as goal

pub returns : goal.returns
returns c = record { means = near_means }

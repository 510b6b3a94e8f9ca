-- The law `found_texts_mean_their_schema`, by `found_printed` and `found_means`.
use Rattle.implication_laws.proofs.FoundLaws.{found_printed, found_means}
use Rattle.implication_laws.proofs.discovering.found_texts_mean_their_schema.Goals as goal

pub returns : goal.returns
returns c = record { printed = found_printed; means = found_means }

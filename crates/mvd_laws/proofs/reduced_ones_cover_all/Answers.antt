-- The law `reduced_ones_cover_all`, by `covers_all`.
use Rattle.mvd_laws.proofs.ListLemmas.{covers_all}
use Rattle.mvd_laws.proofs.reduced_ones_cover_all.Goals as goal

pub returns : goal.returns
returns c = record { law = covers_all }

-- The law `keys_determine_all`, by `identifies_all`.
use Rattle.fd_search.proofs.KeyLemmas.{identifies_all}
use Rattle.fd_search.proofs.laws.keys_determine_all.Goals as goal

pub returns : goal.returns
returns c = record { law = identifies_all }

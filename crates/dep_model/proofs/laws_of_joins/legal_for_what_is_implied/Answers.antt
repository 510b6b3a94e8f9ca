-- The law `legal_for_what_is_implied`, by `legal_for_implied`.
use Rattle.dep_model.proofs.ImplicationLemmas.{legal_for_implied}
use Rattle.dep_model.proofs.laws_of_joins.legal_for_what_is_implied.Goals as goal

pub returns : goal.returns
returns c = record { law = legal_for_implied }

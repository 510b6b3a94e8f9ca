-- The laws `plans_stay_lossless`, clause by clause.
use Rattle.dep_model.proofs.JoinLemmas.{split_lossless, contained_dropped}
use Rattle.dep_model.proofs.PreservationLemmas.{keeps_from_given}
use Rattle.dep_model.proofs.laws_of_joins.plans_stay_lossless.Goals as goal

pub returns : goal.returns
returns c = record {
  split = split_lossless;
  dropped = contained_dropped;
  keeps = keeps_from_given;
}

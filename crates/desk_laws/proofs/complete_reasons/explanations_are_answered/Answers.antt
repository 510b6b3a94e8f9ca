-- The laws `explanations_are_answered`, clause by clause.
use Rattle.desk_laws.proofs.ReasonLaws.{implies_explained, cover_explained, keys_explained, synthesis_explained, fewest_explained, bcnf_explained, fourth_explained}
use Rattle.desk_laws.proofs.complete_reasons.explanations_are_answered.Goals as goal

pub returns : goal.returns
returns c = record {
  implies = implies_explained;
  cover = cover_explained;
  keys = keys_explained;
  synthesize = synthesis_explained;
  fewest = fewest_explained;
  split_bcnf = bcnf_explained;
  split_fourth = fourth_explained;
}

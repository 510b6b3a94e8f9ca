-- The laws `obeyed_by_names`, clause by clause.
use Rattle.schema_match.proofs.MatchLemmas.{relation_again, obeys_there, obeys_back}
use Rattle.schema_match.proofs.laws.obeyed_by_names.Goals as goal

pub returns : goal.returns
returns c = record {
  back = λ schema other r names over. relation_again other schema r (names.1, names.0) over;
  obeyed =
      λ schema other d r names low. (obeys_there schema other d r names low, obeys_back schema other d r names low);
}

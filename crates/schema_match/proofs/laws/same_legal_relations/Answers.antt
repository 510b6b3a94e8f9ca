-- The laws `same_legal_relations`, clause by clause.
use Rattle.schema_match.proofs.MatchLemmas.{have_same_legal_relations, implied_there, implied_back}
use Rattle.schema_match.proofs.laws.same_legal_relations.Goals as goal

pub returns : goal.returns
returns c = record {
  implied = λ schema other names there back. have_same_legal_relations schema other names there back;
  forward = λ schema other names same. implied_there schema other names same;
  backward = λ schema other names same. implied_back schema other names same;
}

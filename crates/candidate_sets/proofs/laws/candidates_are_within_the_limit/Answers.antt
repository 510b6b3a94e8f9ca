-- The laws `candidates_are_within_the_limit`, clause by clause.
use Rattle.candidate_sets.proofs.CountLemmas.{more_listed}
use Rattle.candidate_sets.proofs.FewColumns.{few_have_few}
use Rattle.candidate_sets.proofs.laws.candidates_are_within_the_limit.Goals as goal

pub returns : goal.returns
returns c = record {
  listed = more_listed;
  few_columns = few_have_few;
}

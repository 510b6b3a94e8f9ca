-- The laws `made_up_values_differ`, clause by clause.
use Rattle.column_values.proofs.MadeUpLemmas.{made_up_is_value, made_up_differ}
use Rattle.column_values.proofs.laws.made_up_values_differ.Goals as goal

pub returns : goal.returns
returns c = record {
  values = λ column n valid small. made_up_is_value column n valid small;
  different = λ column m n m_small n_small e. made_up_differ column m n m_small n_small e;
}

-- What is left to prove of `without_optional_tables_the_join_is_read_back`: what it ensures, by `join_is_read_back`.
use Rattle.lookup_laws.proofs.ReadBackLemmas.{join_is_read_back}
use Rattle.lookup_laws.proofs.without_optional_tables_the_join_is_read_back.Goals as goal

pub returns : goal.returns
returns c = record { law = λ n nullable missing tables relations t filled. join_is_read_back nullable missing t n tables relations filled }

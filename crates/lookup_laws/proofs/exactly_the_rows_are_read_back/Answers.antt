-- What is left to prove of `exactly_the_rows_are_read_back`: what it ensures, by `read_back_are_rows`.
use Rattle.lookup_laws.proofs.ReadBackLemmas.{read_back_are_rows}
use Rattle.lookup_laws.proofs.exactly_the_rows_are_read_back.Goals as goal

pub returns : goal.returns
returns c = record { law = λ n ds nullable missing tables r are_missing legal can tidy t. read_back_are_rows n ds nullable missing tables r are_missing legal can tidy t }

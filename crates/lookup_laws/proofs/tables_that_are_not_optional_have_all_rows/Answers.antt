-- What is left to prove of `tables_that_are_not_optional_have_all_rows`: what it ensures, by `filled_has_all`.
use Rattle.lookup_laws.proofs.MissingLemmas.{filled_has_all}
use Rattle.lookup_laws.proofs.tables_that_are_not_optional_have_all_rows.Goals as goal

pub returns : goal.returns
returns c = record { law = filled_has_all }

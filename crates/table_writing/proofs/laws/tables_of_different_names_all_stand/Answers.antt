-- What is left to prove of `tables_of_different_names_all_stand`: its clause `law`, by `all_stand`.
use Rattle.table_writing.proofs.NameLemmas.{all_stand}
use Rattle.table_writing.proofs.laws.tables_of_different_names_all_stand.Goals as goal

pub returns : goal.returns
returns c = record { law = all_stand }

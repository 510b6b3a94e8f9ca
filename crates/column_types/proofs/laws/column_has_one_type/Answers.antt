-- What is left to prove of `column_has_one_type`: its clause, by `FirstLemmas`.
use Rattle.column_types.proofs.FirstLemmas.{type_once}
use Rattle.column_types.proofs.laws.column_has_one_type.Goals as goal

pub returns : goal.returns
returns c = record { law = type_once }

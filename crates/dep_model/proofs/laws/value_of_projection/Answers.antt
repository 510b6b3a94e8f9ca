-- The law `value_of_projection`, by `value_in-project_tuple`.
use Rattle.dep_model.proofs.SchemeLemmas.{value_in-project_tuple}
use Rattle.dep_model.proofs.laws.value_of_projection.Goals as goal

pub returns : goal.returns
returns c = record { law = λ scheme t k h. value_in-project_tuple scheme t k h }

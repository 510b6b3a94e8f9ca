-- What is left to prove of `declarations_make_a_schema`: its clause `law`.
use Rattle.schema_model.proofs.SchemaLemmas.{same_schema}
use Rattle.schema_model.proofs.laws.declarations_make_a_schema.Goals as goal

pub returns : goal.returns
returns c = record { law = same_schema }

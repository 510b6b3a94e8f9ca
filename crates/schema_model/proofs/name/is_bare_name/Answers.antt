-- What is left to prove of `is_bare_name`: its clause `name`, by `bare_name_is_name`.
use Rattle.schema_model.proofs.NameLemmas.{bare_name_is_name}
use Rattle.schema_model.proofs.name.is_bare_name.Goals as goal

pub returns-then-are_name_bytes-clause-name : goal.returns-then-are_name_bytes-clause-name
returns-then-are_name_bytes-clause-name c = bare_name_is_name c.args.bytes.now

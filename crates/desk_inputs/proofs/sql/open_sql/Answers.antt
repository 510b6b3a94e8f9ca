-- What is left to prove of `open_sql`: its clause `opens`, by `KindLemmas`.
use Rattle.std.proofs.Common.{refl}
use Rattle.desk_inputs.specs.Sql.{sql_file}
use Rattle.desk_inputs.proofs.KindLemmas.{file_not_loaded, file_read}
use Rattle.desk_inputs.proofs.sql.open_sql.Goals as goal

pub returns-in-Ok-clause-opens : goal.returns-in-Ok-clause-opens
returns-in-Ok-clause-opens g c = file_read sql_file c.in-Ok.ensures.loads refl refl

pub returns-in-Err-clause-opens : goal.returns-in-Err-clause-opens
returns-in-Err-clause-opens g c = file_not_loaded sql_file c.in-Err.ensures.loads

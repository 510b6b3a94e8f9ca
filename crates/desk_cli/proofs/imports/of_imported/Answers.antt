-- What is left to prove of `of_imported`: its clause `reads`.
use Rattle.desk_imports.specs.Columns.{ImportsColumns}
use Rattle.desk_inputs.specs.Readings.{Reading}
use Rattle.desk_inputs.proofs.CallLemmas.{not_opened, opened}
use Rattle.desk_cli.proofs.imports.of_imported.Goals as goal

pub returns-in-Err : goal.returns-in-Err
returns-in-Err g c = record { reads = not_opened (λ (r : Reading). ImportsColumns) c.in-Err.ensures.opens }

pub returns : goal.returns
returns g c = record { reads = opened ImportsColumns c.import_columns.result c.in-Ok.ensures.opens c.import_columns.ensures.response }

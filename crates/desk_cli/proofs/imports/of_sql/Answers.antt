-- What is left to prove of `of_sql`: its clause `reads`.
use Rattle.desk_imports.specs.Imports.{ImportsTable}
use Rattle.desk_inputs.specs.Readings.{Reading}
use Rattle.desk_inputs.proofs.CallLemmas.{not_opened, opened}
use Rattle.desk_cli.proofs.imports.of_sql.Goals as goal

pub returns-in-Err : goal.returns-in-Err
returns-in-Err g c = record { reads = not_opened (λ (r : Reading). ImportsTable c.args.dialect c.args.table.now c.args.file.now) c.in-Err.ensures.opens }

pub returns : goal.returns
returns g c = record {
  reads = opened (ImportsTable c.args.dialect c.args.table.now c.args.file.now) c.import_table.result c.in-Ok.ensures.opens c.import_table.ensures.response;
}

-- What is left to prove of `of_parts`: its clause `reads`.
use Rattle.std.proofs.Common.{List}
use Rattle.csv_rows.specs.declared.part.PartialRows.{PartialRows}
use Rattle.table_join.specs.Tables.{tables_of}
use Rattle.desk_tables.specs.Rejoining.{JoinsTables}
use Rattle.desk_inputs.specs.Readings.{Reading}
use Rattle.desk_inputs.proofs.CallLemmas.{not_opened, opened}
use Rattle.desk_cli.proofs.tasks.of_parts.Goals as goal

pub returns-in-Err : goal.returns-in-Err
returns-in-Err g c = record { reads = not_opened (λ (r : Reading) (parts : List PartialRows). JoinsTables c.args.schema.now (tables_of parts)) c.in-Err.ensures.opens }

pub returns : goal.returns
returns g c = record {
  reads = opened (λ (parts : List PartialRows). JoinsTables c.args.schema.now (tables_of parts)) c.rejoin.result c.in-Ok.ensures.opens c.rejoin.ensures.response;
}

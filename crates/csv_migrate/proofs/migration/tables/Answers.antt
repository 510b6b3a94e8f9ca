-- What is left to prove of `tables`: its clauses `reads_back` and `joins`, by `MigrationLemmas`.
use Rattle.std.proofs.Common.{List, sym, subst}
use Rattle.schema_model.specs.Schemas.{width_of, theory_of, nullable_of}
use Rattle.named_tables.specs.Tables.{TableValue}
use Rattle.optional_tables.specs.LookUps.{schemes_of_tables}
use Rattle.csv_migrate.specs.Migration.{JoinIs, ReadsBack}
use Rattle.csv_migrate.proofs.MigrationLemmas.{join_is_rows, rows_are_read_back}
use Rattle.csv_migrate.proofs.migration.tables.Goals as goal

pub returns-clause-reads_back : goal.returns-clause-reads_back
returns-clause-reads_back c = λ legal can tidy.
    let schema = c.args.schema.now in
    subst (λ (ts : List TableValue). ReadsBack (width_of schema) (nullable_of schema) c.args.design.now ts c.args.rows)
    (sym c.in_ok-tables.ensures.tables)
    (rows_are_read_back schema c.args.names.now (width_of schema) (theory_of schema) c.args.design.now c.args.rows legal can tidy)

pub returns-clause-joins : goal.returns-clause-joins
returns-clause-joins c = λ legal lossless filled.
    let schema = c.args.schema.now in
    subst (λ (ts : List TableValue). JoinIs (width_of schema) (schemes_of_tables c.args.design.now) ts c.args.rows)
    (sym c.in_ok-tables.ensures.tables)
    (join_is_rows schema c.args.names.now (width_of schema) (theory_of schema) c.args.design.now c.args.rows legal lossless filled)

-- What is left to prove of `schema_of_table`: what `with_columns` requires, by `TableLemmas`, and what it answers.
use Rattle.sql_schemas.proofs.TableLemmas.{table_declared, table_schema}
use Rattle.sql_schemas.specs.KeyValues.{key_columns}
use Rattle.std.specs.Prelude.{map}
use Rattle.sql_schemas.proofs.table.schema_of_table.Goals as goal

pub with_columns-requires-clause-schema : goal.with_columns-requires-clause-schema
with_columns-requires-clause-schema c =
    table_schema c.args.columns.now _ _ _ c.requires.columns c.requires.any_column c.in_ok-names.ensures.names
    c.new-deps.ensures.items c.new-lines.ensures.items

pub with_columns-requires-clause-columns : goal.with_columns-requires-clause-columns
with_columns-requires-clause-columns c =
    table_declared c.args.columns.now (map key_columns c.args.keys.now) _ _ _ c.requires.columns c.in_ok-names.ensures.names
    c.in_ok-types.ensures.types c.columns_missing-nullable.ensures.missing

-- A key of the code by its columns: for every contract in which one stands.
use Rattle.attr_sets.specs.Sets.{attributes}
use Rattle.sql_schemas.specs.declared.keys.TableKey.{TableKey}
use Rattle.sql_schemas.specs.Keys.{KeyColumns}

abbrev pub key_columns : TableKey → KeyColumns
key_columns key = record { kind = key.kind; columns = attributes key.columns }

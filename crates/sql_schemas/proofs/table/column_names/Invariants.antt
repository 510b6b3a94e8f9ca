-- What the loop of `column_names` keeps: the names of the columns so far.
use Rattle.std.proofs.Common.{◌≡◌, take}
use Rattle.sql_schemas.specs.Texts.{column_names}
use Rattle.sql_schemas.proofs.table.column_names.Given as goal

abbrev pub invariant-loop-column : goal.invariant-loop-column
invariant-loop-column l = l.names.items ≡ column_names (take l.column-index l.columns)

-- What the loop of `column_types` keeps: the types of the columns so far.
use Rattle.std.proofs.Common.{◌≡◌, take}
use Rattle.sql_schemas.specs.Texts.{column_types}
use Rattle.sql_schemas.proofs.table.column_types.Given as goal

abbrev pub invariant-loop-column : goal.invariant-loop-column
invariant-loop-column l = l.types.items ≡ column_types (take l.column-index l.columns)

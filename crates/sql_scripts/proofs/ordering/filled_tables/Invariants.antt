-- What the loop of `filled_tables` keeps: the tables so far that are not optional.
use Rattle.std.proofs.Common.{◌≡◌, take}
use Rattle.std.specs.Prelude.{filter}
use Rattle.sql_migrate.specs.Script.{joined_tables}
use Rattle.sql_scripts.proofs.FilledLemmas.{is_filled}
use Rattle.sql_scripts.proofs.ordering.filled_tables.Given as goal

abbrev pub invariant-loop-design : goal.invariant-loop-design
invariant-loop-design l = l.tables.items ≡ joined_tables (filter (is_filled l.schema) (take l.design-index l.designs))

-- What the loop of `keyed_tables` keeps: the tables so far.
use Rattle.std.proofs.Common.{◌≡◌, map, take}
use Rattle.ddl_text.specs.Designs.{keyed}
use Rattle.ddl_text.proofs.keying.keyed_tables.Given as goal

abbrev pub invariant-loop-table : goal.invariant-loop-table
invariant-loop-table l = l.keyed.items ≡ map keyed (take l.table-index l.tables)

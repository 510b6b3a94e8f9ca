-- What the loop of `filled_tables` keeps: the tables so far.
use Rattle.std.proofs.Common.{◌≡◌, not, take}
use Rattle.std.specs.Prelude.{filter}
use Rattle.attr_sets.specs.Sets.{attributes}
use Rattle.optional_tables.specs.Homes.{is_optional}
use Rattle.optional_tables.proofs.ordering.filled_tables.Given as goal

abbrev pub invariant-loop-table : goal.invariant-loop-table
invariant-loop-table l =
    l.filled.items ≡ filter (λ table. not (is_optional (attributes l.nullable) table)) (take l.table-index l.tables)

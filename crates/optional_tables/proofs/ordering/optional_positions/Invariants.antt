-- What the loop of `optional_positions` keeps: the positions so far.
use Rattle.std.proofs.Common.{◌≡◌, take}
use Rattle.attr_sets.specs.Sets.{attributes}
use Rattle.optional_tables.specs.Homes.{is_optional}
use Rattle.optional_tables.specs.Order.{positions_from}
use Rattle.optional_tables.proofs.ordering.optional_positions.Given as goal

abbrev pub invariant-loop-k : goal.invariant-loop-k
invariant-loop-k l = l.found.items ≡ positions_from (is_optional (attributes l.nullable)) 0 (take l.k l.tables)

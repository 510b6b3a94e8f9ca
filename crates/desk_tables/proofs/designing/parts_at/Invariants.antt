-- What the loop of `parts_at` keeps: `members`.
use Rattle.std.proofs.Common.{◌≡◌, take}
use Rattle.optional_tables.specs.Order.{members_at}
use Rattle.table_join.specs.Tables.{tables_of, tables_of_lent}
use Rattle.desk_tables.proofs.designing.parts_at.Given as goal

-- the parts at the positions so far
abbrev pub invariant-loop-position : goal.invariant-loop-position
invariant-loop-position l = record {
  members : tables_of_lent l.members.items ≡ members_at (tables_of l.parts) (take l.position-index l.positions);
}

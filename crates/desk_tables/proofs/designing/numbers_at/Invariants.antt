-- What the loop of `numbers_at` keeps: `members`.
use Rattle.std.proofs.Common.{◌≡◌, take}
use Rattle.optional_tables.specs.Order.{members_at}
use Rattle.desk_tables.proofs.designing.numbers_at.Given as goal

-- the members at the positions so far
abbrev pub invariant-loop-position : goal.invariant-loop-position
invariant-loop-position l = record {
  members : l.members.items ≡ members_at l.numbers (take l.position-index l.positions);
}

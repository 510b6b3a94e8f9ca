-- What the loop of `schemes_in` keeps: `schemes`.
use Rattle.std.proofs.Common.{◌≡◌, map, take}
use Rattle.desk_tables.proofs.designing.schemes_in.Given as goal

-- the schemes of the tables so far
abbrev pub invariant-loop-table : goal.invariant-loop-table
invariant-loop-table l = record { schemes : l.schemes.items ≡ map (λ table. table.scheme) (take l.table-index l.tables) }

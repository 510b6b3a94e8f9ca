-- What the loop of `add_header` keeps: `read`.
use Rattle.std.proofs.Common.{◌≡◌, map, take}
use Rattle.file_references.specs.Columns.{name_at}
use Rattle.desk_references.proofs.checking.add_header.Given as goal

-- the names so far
abbrev pub invariant-loop-column : goal.invariant-loop-column
invariant-loop-column l = record { read : l.row ≡ map (name_at l.names) (take l.column-index l.columns) }

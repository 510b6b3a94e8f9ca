-- What the loop of `write_tables_to_each` keeps, in terms of `table_values`, `WrittenDestination`
-- and `HoldsSoFar`.
use Rattle.std.proofs.Common.{◌≤◌, length}
use Rattle.std.specs.Prelude.{vec_capacity}
use Rattle.named_tables.specs.Tables.{table_values}
use Rattle.table_writing.specs.Writing.{WrittenDestination}
use Rattle.table_writing.proofs.PositionLemmas.{HoldsSoFar}
use Rattle.table_writing.proofs.writing.write_tables_to_each.Given as goal

-- the destinations so far are written, and the others are as they were
abbrev pub invariant-loop-destination : goal.invariant-loop-destination
invariant-loop-destination g l = record {
  written : HoldsSoFar (WrittenDestination g.G.Folder.state (table_values l.tables)) l.destination-index l.fn.destinations l.destinations l.ends.items;
  room : length l.destinations ≤ vec_capacity l.ends;
}

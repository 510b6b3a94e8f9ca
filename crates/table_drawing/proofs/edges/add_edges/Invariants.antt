-- What the loop of `add_edges` keeps, in terms of `edges_text`.
use Rattle.std.proofs.Common.{◌≡◌, ◌++◌, take}
use Rattle.std.specs.List.{flat_map}
use Rattle.table_drawing.specs.Drawing.{edges_text}
use Rattle.table_drawing.proofs.edges.add_edges.Given as goal

-- the edges of the tables so far
abbrev pub invariant-loop-table : goal.invariant-loop-table
invariant-loop-table l = l.text.items
    ≡ l.fn.text.items ++ flat_map (edges_text l.schema l.tables) (take l.table-index l.tables)

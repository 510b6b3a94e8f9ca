-- What the loop of `add_nodes` keeps, in terms of `node_text`.
use Rattle.std.proofs.Common.{◌≡◌, ◌++◌, take}
use Rattle.std.specs.List.{flat_map}
use Rattle.table_drawing.specs.Drawing.{node_text}
use Rattle.table_drawing.proofs.nodes.add_nodes.Given as goal

-- the nodes so far
abbrev pub invariant-loop-table : goal.invariant-loop-table
invariant-loop-table l = l.text.items ≡ l.fn.text.items ++ flat_map (node_text l.schema) (take l.table-index l.tables)

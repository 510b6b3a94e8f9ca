-- What the loop of `add_edges_to` keeps, in terms of `edges_to`.
use Rattle.std.proofs.Common.{◌≡◌, ◌++◌, take}
use Rattle.table_drawing.specs.Drawing.{edges_to}
use Rattle.table_drawing.proofs.edges.add_edges_to.Given as goal

-- the edges so far
abbrev pub invariant-loop-j : goal.invariant-loop-j
invariant-loop-j l = l.text.items ≡ l.fn.text.items ++ edges_to l.schema l.tables l.table (take l.j-index l.refs)

-- What the loop of `add_rows` keeps, in terms of `members_below` and `row_text`.
use Rattle.std.proofs.Common.{◌≡◌, ◌++◌}
use Rattle.std.specs.List.{flat_map}
use Rattle.attr_sets.specs.Sets.{attributes}
use Rattle.dep_model.specs.Projections.{members_below}
use Rattle.table_drawing.specs.Drawing.{row_text}
use Rattle.table_drawing.proofs.nodes.add_rows.Given as goal

-- the rows of the members so far
abbrev pub invariant-loop-attribute : goal.invariant-loop-attribute
invariant-loop-attribute l = l.text.items
    ≡ l.fn.text.items ++ flat_map (row_text l.schema (attributes l.key)) (members_below l.attribute (attributes l.scheme))

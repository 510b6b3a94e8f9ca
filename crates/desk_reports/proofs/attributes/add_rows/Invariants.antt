-- What the loop of `add_rows` keeps, in terms of `texts_below`.
use Rattle.std.proofs.Common.{◌≡◌, ◌++◌}
use Rattle.attr_sets.specs.Sets.{attributes}
use Rattle.design_picture.specs.Picture.{texts_below}
use Rattle.desk_reports.specs.Attributes.{attribute_row}
use Rattle.desk_reports.proofs.attributes.add_rows.Given as goal

abbrev pub invariant-loop-attribute : goal.invariant-loop-attribute
invariant-loop-attribute l = l.text.items ≡ l.fn.text.items
    ++ texts_below l.attribute (attribute_row l.schema (attributes l.in_key))

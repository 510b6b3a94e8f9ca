-- What the loop of `push_values` keeps: the fields are those before and the first values.
use Rattle.std.proofs.Common.{◌≡◌, ◌++◌}
use Rattle.attr_sets.specs.Sets.{attributes}
use Rattle.row_store.specs.Rows.{row_at}
use Rattle.desk_measures.specs.Offences.{values_below}
use Rattle.desk_measures.proofs.fields.push_values.Given as goal

abbrev pub invariant-loop-attribute : goal.invariant-loop-attribute
invariant-loop-attribute l =
    l.fields ≡ l.fn.fields ++ values_below l.attribute (attributes l.shown) (row_at l.rows l.row)

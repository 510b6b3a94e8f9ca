-- What the loop of `take_values` keeps: the fields are the first values.
use Rattle.std.proofs.Common.{◌≡◌, take}
use Rattle.row_store.specs.Rows.{row_at}
use Rattle.desk_measures.proofs.keeping.take_values.Given as goal

abbrev pub invariant-loop-i : goal.invariant-loop-i
invariant-loop-i l = l.fields ≡ take l.i (row_at l.rows l.row)

-- What the loop of `typed_row` keeps: the values so far.
use Rattle.std.proofs.Common.{◌≡◌, take}
use Rattle.schema_model.specs.Schemas.{types_of}
use Rattle.typed_rows.specs.Typed.{typed_tuple}
use Rattle.typed_rows.proofs.typing.typed_row.Given as goal

abbrev pub invariant-loop-i : goal.invariant-loop-i
invariant-loop-i l = l.values.items ≡ typed_tuple (take l.i (types_of l.schema)) (take l.i l.row)

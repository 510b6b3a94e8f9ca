-- What the loop of `typed_rows` keeps: the rows so far.
use Rattle.std.proofs.Common.{◌≡◌, take}
use Rattle.schema_model.specs.Schemas.{types_of}
use Rattle.typed_rows.specs.Typed.{typed_relation}
use Rattle.typed_rows.proofs.typing.typed_rows.Given as goal

abbrev pub invariant-loop-row : goal.invariant-loop-row
invariant-loop-row l = l.typed.items ≡ typed_relation (types_of l.schema) (take l.row-index l.rows)

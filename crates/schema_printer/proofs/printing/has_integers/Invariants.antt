-- What the loop of `has_integers` keeps, in terms of `types_of` and `is_integer`.
use Rattle.std.proofs.Common.{◌≡◌, take, false}
use Rattle.schema_model.specs.Schemas.{types_of}
use Rattle.std.specs.List.{list_any}
use Rattle.schema_printer.specs.Printing.{is_integer}
use Rattle.schema_printer.proofs.printing.has_integers.Given as goal

abbrev pub invariant-loop-attribute : goal.invariant-loop-attribute
invariant-loop-attribute l = list_any is_integer (take l.attribute (types_of l.schema)) ≡ false

-- What the loop of `add_doubled` keeps, in terms of `quotes_doubled`.
use Rattle.std.proofs.Common.{◌≡◌, ◌++◌, take}
use Rattle.schema_model.specs.Names.{quotes_doubled}
use Rattle.schema_printer.proofs.spelling.add_doubled.Given as goal

abbrev pub invariant-loop-b : goal.invariant-loop-b
invariant-loop-b l = l.text.items ≡ l.fn.text.items ++ quotes_doubled (take l.b-index l.bytes)

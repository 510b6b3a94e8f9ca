-- What the loop of `lines_of` keeps: the first lines.
use Rattle.std.proofs.Common.{◌≡◌, take}
use Rattle.schema_model.specs.Schemas.{lines_of}
use Rattle.desk_measures.proofs.untyped.lines_of.Given as goal

abbrev pub invariant-loop-k : goal.invariant-loop-k
invariant-loop-k l = l.lines.items ≡ take l.k (lines_of l.schema)

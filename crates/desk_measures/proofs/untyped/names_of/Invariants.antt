-- What the loop of `names_of` keeps: the first names.
use Rattle.std.proofs.Common.{◌≡◌, take}
use Rattle.schema_model.specs.Schemas.{names_of}
use Rattle.desk_measures.proofs.untyped.names_of.Given as goal

abbrev pub invariant-loop-attribute : goal.invariant-loop-attribute
invariant-loop-attribute l = l.names.items ≡ take l.attribute (names_of l.schema)

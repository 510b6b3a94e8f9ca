-- What the loop of `push_names` keeps: the fields are those before and the first names.
use Rattle.std.proofs.Common.{◌≡◌, ◌++◌, take}
use Rattle.schema_model.specs.Schemas.{names_of}
use Rattle.desk_measures.proofs.fields.push_names.Given as goal

abbrev pub invariant-loop-attribute : goal.invariant-loop-attribute
invariant-loop-attribute l = l.fields ≡ l.fn.fields ++ take l.attribute (names_of l.schema)

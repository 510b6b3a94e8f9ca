-- What the loop of `names_in` keeps: the names of the attributes below the one that comes.
use Rattle.std.proofs.Common.{◌≡◌, []}
use Rattle.attr_sets.specs.Sets.{attributes}
use Rattle.schema_model.specs.Schemas.{names_of}
use Rattle.schema_printer.specs.Parts.{chosen}
use Rattle.schema_printer.proofs.parts.names_in.Given as goal

abbrev pub invariant-loop-attribute : goal.invariant-loop-attribute
invariant-loop-attribute l = l.names.items ≡ chosen (names_of l.schema) [] l.attribute (attributes l.set)

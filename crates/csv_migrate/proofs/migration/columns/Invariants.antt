-- What the loop of `columns` keeps: `names`.
use Rattle.std.proofs.Common.{◌≡◌, take}
use Rattle.attr_sets.specs.Sets.{attributes}
use Rattle.schema_model.specs.Schemas.{names_of}
use Rattle.schema_printer.specs.Printing.{members_from}
use Rattle.csv_migrate.proofs.migration.columns.Given as goal

-- the names of the members before the attribute
abbrev pub invariant-loop-attribute : goal.invariant-loop-attribute
invariant-loop-attribute l = record {
  names : l.names.items ≡ members_from (attributes l.scheme) 0 (take l.attribute (names_of l.schema));
}

-- What the loop of `nullable_columns` keeps: whether a value of each attribute so far may be missing.
use Rattle.std.proofs.Common.{◌≡◌, map}
use Rattle.attr_sets.specs.Attributes.{difference}
use Rattle.attr_sets.specs.Sets.{attributes}
use Rattle.dep_model.specs.Projections.{members_below}
use Rattle.schema_model.specs.Schemas.{nullable_of}
use Rattle.csv_migrate.proofs.migration.nullable_columns.Given as goal

abbrev pub invariant-loop-attribute : goal.invariant-loop-attribute
invariant-loop-attribute l = record {
  flags : l.flags.items ≡ map (difference (nullable_of l.schema) (attributes l.keyed.key)) (members_below l.attribute (attributes l.keyed.scheme));
}

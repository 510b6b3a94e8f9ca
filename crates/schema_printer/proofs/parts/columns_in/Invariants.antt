-- What the loop of `columns_in` keeps: the types of the attributes below the one that comes.
use Rattle.std.proofs.Common.{◌≡◌}
use Rattle.std.specs.Prelude.{All, IsTrue}
use Rattle.attr_sets.specs.Sets.{attributes}
use Rattle.schema_model.specs.declared.column_type.ColumnType.TheVariants.{Text}
use Rattle.schema_model.specs.Columns.{is_column_type}
use Rattle.schema_model.specs.Schemas.{types_of}
use Rattle.schema_printer.specs.Parts.{chosen}
use Rattle.schema_printer.proofs.parts.columns_in.Given as goal

abbrev pub invariant-loop-attribute : goal.invariant-loop-attribute
invariant-loop-attribute l = record {
  chosen_types : l.columns.items ≡ chosen (types_of l.schema) Text l.attribute (attributes l.set);
  each : All (λ column. IsTrue (is_column_type column)) l.columns.items;
}

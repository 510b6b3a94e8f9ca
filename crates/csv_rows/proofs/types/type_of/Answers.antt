-- What is left to prove of `type_of`: its clause `column`, of an attribute of the schema.
use Rattle.std.proofs.Common.{sym}
use Rattle.std.proofs.lemmas.Option.{get_or_from_slice_get}
use Rattle.schema_model.specs.Schemas.{types_of}
use Rattle.schema_model.specs.declared.column_type.ColumnType.TheVariants.{Text}
use Rattle.csv_rows.proofs.types.type_of.Goals as goal

pub returns-then-attribute-width : goal.returns-then-attribute-width
returns-then-attribute-width c = record {
  column = sym (get_or_from_slice_get (types_of c.args.schema.now) c.args.attribute _ Text c.column.ensures.column);
  valid = c.column.ensures.valid;
}

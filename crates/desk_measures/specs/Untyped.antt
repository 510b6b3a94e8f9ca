-- A schema with text columns alone, by which rows are read whose values may not be of their column's type:
-- for `measure`.
use Rattle.std.specs.Prelude.{◌≡◌, replicate}
use Rattle.schema_model.specs.Schemas.{naming_of, names_of, width_of, types_of, nullable_of, theory_of, lines_of}
use Rattle.schema_model.specs.declared.column_type.ColumnType.TheVariants.{Text}
use Rattle.schema_model.specs.Schemas.{Schema}

-- the second schema declares what the first does, with text columns alone
pub record HasTextsAlone (schema texts : Schema) : Type 0 where
  pub naming : naming_of texts ≡ naming_of schema
  pub names : names_of texts ≡ names_of schema
  pub types : types_of texts ≡ replicate (width_of schema) Text
  pub nullable : nullable_of texts ≡ nullable_of schema
  pub theory : theory_of texts ≡ theory_of schema
  pub lines : lines_of texts ≡ lines_of schema

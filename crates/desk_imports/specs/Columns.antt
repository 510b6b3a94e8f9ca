-- The schema of the columns of a file of rows under names of its own: for `import csv`.
use Rattle.std.specs.Prelude.{◌≡◌, [], length}
use Rattle.column_types.specs.FirstTypes.{AreTypesOf, HaveEmpty}
use Rattle.schema_model.specs.Schemas.{naming_of, names_of, types_of, nullable_of, deps_of}
use Rattle.schema_model.specs.declared.naming.Naming.TheVariants.{Any}
use Rattle.schema_model.specs.Schemas.{Schema}
use Rattle.headed_rows.specs.Headings.{HeadedRows}
use Rattle.schema_printer.specs.Printing.{schema_text}
use Rattle.desk_responses.specs.ResponseValues.{Allowed, Says}
use Rattle.desk_responses.specs.declared.status.Status.TheVariants.{Yes}

-- a schema has the names of a header, any names, in their order, each with the type of its column. Values may be
-- missing in the columns with an empty one, and there are no dependencies
pub record IsSchemaOf (headed : HeadedRows) (s : Schema) : Type 0 where
  pub naming : naming_of s ≡ Any
  pub names : names_of s ≡ headed.names
  pub types : AreTypesOf headed.rows (types_of s)
  pub nullable : HaveEmpty (length headed.names) headed.rows (nullable_of s)
  pub deps : deps_of s ≡ []

-- yes, with the text of such a schema
abbrev pub ImportsColumns : HeadedRows → Allowed
ImportsColumns headed response = (s : Schema) × IsSchemaOf headed s × Says Yes (schema_text s []) response

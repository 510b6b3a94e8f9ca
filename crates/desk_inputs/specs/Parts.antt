-- Files of tables, each with some columns of a schema.
use Rattle.std.specs.Prelude.{ℕ, List, Ok, Err}
use Rattle.csv_rows.specs.declared.part.PartialRows.{PartialRows}
use Rattle.csv_rows.specs.declared.refusal.RowRefusal.{RowRefusal}
use Rattle.csv_rows.specs.Reading.{PartOf, HasScheme}
use Rattle.schema_model.specs.Schemas.{Schema}
use Rattle.desk_inputs.specs.declared.rows.TheConstants.{MOST_CSV_BYTES}
use Rattle.desk_inputs.specs.FileKinds.{FileKind}
use Rattle.desk_inputs.specs.Rows.{row_refusal_text}

-- a text has the columns and rows of this part
pub record MeansPart (schema : Schema) (bytes : List ℕ) (part : PartialRows) : Type 0 where
  pub rows : PartOf schema bytes (Ok part.rows)
  pub columns : HasScheme schema bytes part.scheme

-- rows with some of a schema's columns
abbrev pub part_file : Schema → FileKind PartialRows RowRefusal
part_file schema = record {
  limit = MOST_CSV_BYTES;
  means = MeansPart schema;
  refuses = λ bytes refusal. PartOf schema bytes (Err refusal);
  refusal_text = row_refusal_text schema;
}

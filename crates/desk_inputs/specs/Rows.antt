-- Files of rows.
use Rattle.std.specs.Prelude.{ℕ, List, ◌++◌, codes, Ok, Err}
use Rattle.std.specs.Fmt.{decimal}
use Rattle.dep_model.specs.Tuples.{Relation}
use Rattle.schema_model.specs.Schemas.{Schema}
use Rattle.csv_rows.specs.declared.refusal.RowRefusal.{RowRefusal}
use Rattle.csv_rows.specs.Reading.{RowsOf}
use Rattle.csv_rows.specs.RefusalTexts.{row_reason_text, row_refusal_number}
use Rattle.desk_inputs.specs.declared.rows.TheConstants.{MOST_CSV_BYTES}
use Rattle.desk_inputs.specs.FileKinds.{FileKind}
use Rattle.desk_texts.specs.Texts.{line}

-- a refusal of a file of rows
abbrev pub row_refusal_text : Schema → List ℕ → RowRefusal → List ℕ
row_refusal_text schema file why =
    line (codes "refused: rows " ++ decimal (row_refusal_number why) ++ codes " at " ++ file
    ++ codes ": " ++ row_reason_text schema why)

-- rows of a schema, in which each of its attributes has a column
abbrev pub rows_file : Schema → FileKind Relation RowRefusal
rows_file schema = record {
  limit = MOST_CSV_BYTES;
  means = λ bytes rows. RowsOf schema bytes (Ok rows);
  refuses = λ bytes refusal. RowsOf schema bytes (Err refusal);
  refusal_text = row_refusal_text schema;
}

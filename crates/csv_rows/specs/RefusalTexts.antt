-- The numbers and the words of the refusals of rows: for the line that refuses a CSV file, and for
-- `measure`.
use Rattle.std.specs.Prelude.{ℕ, List, [], ◌++◌, codes, slice_index_or}
use Rattle.std.specs.Fmt.{decimal}
use Rattle.schema_model.specs.Schemas.{types_of}
use Rattle.schema_model.specs.declared.column_type.ColumnType.{ColumnType}
use Rattle.schema_model.specs.declared.column_type.ColumnType.TheVariants.{Text}
use Rattle.schema_model.specs.Schemas.{Schema}
use Rattle.schema_printer.specs.Printing.{type_word}
use Rattle.schema_printer.specs.Spelling.{printed_names_of}
use Rattle.csv_rows.specs.declared.refusal.RowRefusal.{RowRefusal}
use Rattle.csv_rows.specs.declared.refusal.RowRefusal.TheVariants as refusal

-- the number of a refusal
abbrev pub row_refusal_number : RowRefusal → ℕ
row_refusal_number refusal.NoHeader = 1
row_refusal_number (refusal.UnknownColumn column) = 2
row_refusal_number (refusal.DoubleColumn column) = 3
row_refusal_number (refusal.MissingColumn attribute) = 4
row_refusal_number (refusal.UnevenRow row) = 5
row_refusal_number refusal.TooManyRows = 6
row_refusal_number (refusal.NotOfType row attribute) = 7
row_refusal_number refusal.OpenHeader = 8
row_refusal_number (refusal.OpenRow row) = 8

-- the type of the column of an attribute; text where there is none
abbrev pub type_of : Schema → ℕ → ColumnType
type_of s a = slice_index_or (types_of s) a Text

-- a refusal in words, of rows for a schema
abbrev pub row_reason_text : Schema → RowRefusal → List ℕ
row_reason_text s refusal.NoHeader = codes "no header"
row_reason_text s (refusal.UnknownColumn column) = codes "unknown column " ++ decimal column
row_reason_text s (refusal.DoubleColumn column) = codes "column " ++ decimal column ++ codes " repeated"
row_reason_text s (refusal.MissingColumn attribute) =
    codes "missing column " ++ slice_index_or (printed_names_of s) attribute []
row_reason_text s (refusal.UnevenRow row) = codes "row " ++ decimal row ++ codes " has the wrong length"
row_reason_text s refusal.TooManyRows = codes "too many rows"
row_reason_text s (refusal.NotOfType row attribute) =
    codes "row " ++ decimal row ++ codes ": " ++ slice_index_or (printed_names_of s) attribute []
    ++ codes " is no " ++ type_word (type_of s attribute)
row_reason_text s refusal.OpenHeader = codes "the header has an open quote"
row_reason_text s (refusal.OpenRow row) = codes "row " ++ decimal row ++ codes " has an open quote"

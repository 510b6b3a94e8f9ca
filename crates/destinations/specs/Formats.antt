-- How a table becomes a file, before it is written to a folder: for all that writes tables, and for laws on their
-- files.
use Rattle.std.specs.Prelude.{ℕ, Bool, List, [], ◌++◌, map, codes}
use Rattle.std.specs.List.{flat_map}
use Rattle.csv_text.specs.Rows.{csv_row}
use Rattle.dep_model.specs.Tuples.{Tuple}
use Rattle.desk_outside.specs.Files.{StoredFile}
use Rattle.named_tables.specs.Tables.{TableValue}
use Rattle.destinations.specs.Sql.{sql_head, sql_row}
use Rattle.destinations.specs.declared.format.TableFormat.{TableFormat}
use Rattle.destinations.specs.declared.format.TableFormat.TheVariants.{Csv, Sql}

-- the end of a file's name
abbrev pub ending : TableFormat → List ℕ
ending Csv = codes ".csv"
ending Sql = codes ".sql"

-- what stands before the rows: of CSV the names of the columns
abbrev pub opening : TableFormat → List (List ℕ) → List ℕ
opening Csv columns = csv_row columns
opening Sql columns = []

-- what the line of each row begins with
abbrev pub line_front : TableFormat → List ℕ → List (List ℕ) → List ℕ
line_front Csv name columns = []
line_front Sql name columns = sql_head name columns

-- the line of a row, after this front, over columns of which a value may be missing or not
abbrev pub row_line : TableFormat → List ℕ → List Bool → Tuple → List ℕ
row_line Csv front nullable row = csv_row row
row_line Sql front nullable row = sql_row front nullable row

-- a table
abbrev pub table_text : TableFormat → TableValue → List ℕ
table_text format table =
    opening format table.columns
    ++ flat_map (row_line format (line_front format table.name table.columns) table.nullable) table.rows

-- the file of a table, in the folder of this path
abbrev pub table_file : List ℕ → TableFormat → TableValue → StoredFile
table_file front format table =
    record { name = front ++ table.name ++ ending format; bytes = table_text format table }

abbrev pub table_files : List ℕ → TableFormat → List TableValue → List StoredFile
table_files front format tables = map (table_file front format) tables

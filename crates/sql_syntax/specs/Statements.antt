-- Statements of SQL as values, and their texts: for all that prints scripts, and for the laws of what they do.
use Rattle.std.specs.Prelude.{ℕ, Bool, true, false, if◌then◌else◌, List, [], ◌∷◌, ◌++◌, codes}
use Rattle.std.specs.List.{flat_map}
use Rattle.sql_syntax.specs.Syntax.{ColumnName, Query}
use Rattle.sql_syntax.specs.Printing.{name_text, names_text, query_text}

-- what stands between the brackets of a table that is created: a column of a type, which may be missing or
-- not; the key; another key; and columns that refer to those of the same names of a table
pub data Element : Type 0 where
  column_definition : ColumnName → List ℕ → Bool → Element
  primary_key : List ColumnName → Element
  unique_key : List ColumnName → Element
  foreign_key : List ColumnName → List ℕ → Element

-- a statement, by the names of tables and views as SQL has them
pub data Statement : Type 0 where
  -- a line that says something to a reader alone
  remark : List ℕ → Statement
  begin : Statement
  commit : Statement
  create_table : List ℕ → List Element → Statement
  -- a table with one column, of integers that must be zero
  create_zeros : List ℕ → ColumnName → Statement
  -- a table with the rows of a query
  create_from : List ℕ → Query → Statement
  create_view : List ℕ → Query → Statement
  -- the rows of a query go into a table; into the columns of these names, or into all of them
  insert_into : List ℕ → List ColumnName → Query → Statement
  insert_all : List ℕ → Query → Statement
  drop_table : List ℕ → Statement
  -- the rows of a query, for a reader
  ask : Query → Statement

-- ---- elements
abbrev pub element_text : Element → List ℕ
element_text (column_definition name type nullable) =
    name_text name ++ 32 ∷ (type ++ (if nullable then [] else codes " NOT NULL"))
element_text (primary_key names) = codes "PRIMARY KEY (" ++ names_text names ++ codes ")"
element_text (unique_key names) = codes "UNIQUE (" ++ names_text names ++ codes ")"
element_text (foreign_key names other) =
    codes "FOREIGN KEY (" ++ names_text names ++ codes ") REFERENCES " ++ other
    ++ codes " (" ++ names_text names ++ codes ")"

-- what stands before an element on its line, after the end of the line before, if there is one
abbrev pub opening : Bool → List ℕ
opening any_before = if any_before then codes ",\n  " else codes "  "

-- each on a line with two blanks before it, and with a comma after each that another follows; where others stand before
-- them, from the comma after these on
abbrev pub element_lines : Bool → List Element → List ℕ
element_lines any_before [] = []
element_lines any_before (e ∷ es) = opening any_before ++ element_text e ++ element_lines true es

-- ---- statements
unfoldable pub statement_text : Statement → List ℕ
statement_text (remark text) = codes "-- " ++ text ++ codes "\n"
statement_text begin = codes "BEGIN;\n"
statement_text commit = codes "COMMIT;\n"
statement_text (create_table name elements) =
    codes "CREATE TABLE " ++ name ++ codes " (\n" ++ element_lines false elements ++ codes "\n);\n"
statement_text (create_zeros name column) =
    codes "CREATE TEMPORARY TABLE " ++ name ++ codes " (" ++ name_text column ++ codes " BIGINT CHECK ("
    ++ name_text column ++ codes " = 0));\n"
statement_text (create_from name q) =
    codes "CREATE TEMPORARY TABLE " ++ name ++ codes " AS " ++ query_text q ++ codes ";\n"
statement_text (create_view name q) = codes "CREATE VIEW " ++ name ++ codes " AS " ++ query_text q ++ codes ";\n"
statement_text (insert_into name columns q) =
    codes "INSERT INTO " ++ name ++ codes " (" ++ names_text columns ++ codes ") " ++ query_text q ++ codes ";\n"
statement_text (insert_all name q) = codes "INSERT INTO " ++ name ++ 32 ∷ (query_text q ++ codes ";\n")
statement_text (drop_table name) = codes "DROP TABLE " ++ name ++ codes ";\n"
statement_text (ask q) = query_text q ++ codes ";\n"

-- statements, one after the other
abbrev pub script_text : List Statement → List ℕ
script_text script = flat_map statement_text script

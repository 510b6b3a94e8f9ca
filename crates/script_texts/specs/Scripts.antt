-- Scripts that can be read back from their texts: for the law that a text has one of them, and for the laws of what is
-- printed.
use Rattle.std.specs.Prelude.{ℕ, ◌-◌, ◌==◌, ◌&&◌, Bool, not, IsTrue, List, length, drop, All, codes}
use Rattle.std.specs.List.{list_all}
use Rattle.std.specs.Str.{bytes_eq}
use Rattle.sql_syntax.specs.Statements.{Element, column_definition, primary_key, unique_key, foreign_key, Statement, remark, begin, commit, create_table, create_zeros, create_from, create_view, insert_into, insert_all, drop_table, ask}
use Rattle.script_texts.specs.Queries.{is_column_name, IsTableName, IsQuery}

-- bytes of one line
abbrev pub is_line : List ℕ → Bool
is_line bytes = list_all (λ b. not (b == 10)) bytes

-- ---- elements
abbrev pub ends_with : List ℕ → List ℕ → Bool
ends_with bytes end = bytes_eq (drop (length bytes - length end) bytes) end

-- a type, which does not say itself that no value may be missing
abbrev pub is_plain_type : List ℕ → Bool
is_plain_type type = is_line type && not (ends_with type (codes " NOT NULL"))

abbrev pub IsElement : Element → Type 0
IsElement (column_definition name type nullable) = IsTrue (is_column_name name) × IsTrue (is_plain_type type)
IsElement (primary_key names) = IsTrue (list_all is_column_name names)
IsElement (unique_key names) = IsTrue (list_all is_column_name names)
IsElement (foreign_key names other) = IsTrue (list_all is_column_name names) × IsTableName other

-- ---- statements
abbrev pub IsStatement : Statement → Type 0
IsStatement (remark text) = IsTrue (is_line text)
IsStatement begin = Unit {0}
IsStatement commit = Unit {0}
IsStatement (create_table name elements) = IsTableName name × All IsElement elements
IsStatement (create_zeros name column) = IsTableName name × IsTrue (is_column_name column)
IsStatement (create_from name q) = IsTableName name × IsQuery q
IsStatement (create_view name q) = IsTableName name × IsQuery q
IsStatement (insert_into name columns q) = IsTableName name × IsTrue (list_all is_column_name columns) × IsQuery q
IsStatement (insert_all name q) = IsTableName name × IsQuery q
IsStatement (drop_table name) = IsTableName name
IsStatement (ask q) = IsQuery q

abbrev pub IsScript : List Statement → Type 0
IsScript script = All IsStatement script

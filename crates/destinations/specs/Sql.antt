-- A table as INSERT lines: for the destination that writes such files. `Desk` does not cite it.
use Rattle.std.specs.Prelude.{ℕ, ◌==◌, ◌&&◌, Bool, true, false, not, if◌then◌else◌, List, [], ◌∷◌, ◌++◌, codes}
use Rattle.std.specs.List.{list_any}
use Rattle.std.specs.Str.{is_utf8}
use Rattle.hex.specs.Hex.{encode_upper}
use Rattle.dep_model.specs.Tuples.{Tuple}
use Rattle.sql_syntax.specs.Names.{comma_list, quoted_name}

-- a byte between single quotes: a single quote is doubled
abbrev pub escape_quote : ℕ → List ℕ
escape_quote byte = if byte == 39 then 39 ∷ 39 ∷ [] else byte ∷ []

-- a byte after another one: between CR and LF the string ends and another one is joined to it
abbrev pub escape_after : ℕ → ℕ → List ℕ
escape_after last byte = if last == 13 && byte == 10 then codes "' || '" ++ 10 ∷ [] else escape_quote byte

-- bytes between single quotes, the first of which stands after this one
abbrev pub escaped_after : ℕ → List ℕ → List ℕ
escaped_after last [] = []
escaped_after last (byte ∷ bytes) = escape_after last byte ++ escaped_after byte bytes

-- a text between single quotes; before its first byte there is none, as if it were a zero
abbrev pub quoted_text : List ℕ → List ℕ
quoted_text value = 39 ∷ (escaped_after 0 value ++ 39 ∷ [])

-- whether a value can be a text of SQL: it is UTF-8, and has no zero byte
abbrev pub is_sql_text : List ℕ → Bool
is_sql_text value = is_utf8 value && not (list_any (λ byte. byte == 0) value)

-- a value: a text between single quotes, or its bytes in hexadecimal digits
abbrev pub sql_value : List ℕ → List ℕ
sql_value value =
    if is_sql_text value then quoted_text value
    else codes "X'" ++ encode_upper value ++ codes "'"

-- whether a value is the empty text
abbrev pub is_empty_text : List ℕ → Bool
is_empty_text [] = true
is_empty_text (byte ∷ bytes) = false

-- a value of a column of which one may be missing or not: where it may, the empty text is the missing value
abbrev pub sql_cell : Bool → List ℕ → List ℕ
sql_cell nullable value = if nullable && is_empty_text value then codes "NULL" else sql_value value

-- the values of a row, over columns of which one may be missing or not; of further columns none may be
abbrev pub sql_cells : List Bool → Tuple → List (List ℕ)
sql_cells nullable [] = []
sql_cells [] (value ∷ row) = sql_value value ∷ sql_cells [] row
sql_cells (flag ∷ nullable) (value ∷ row) = sql_cell flag value ∷ sql_cells nullable row

-- the front of each line of a table
abbrev pub sql_head : List ℕ → List (List ℕ) → List ℕ
sql_head name columns =
    codes "INSERT INTO " ++ quoted_name name ++ codes " (" ++ comma_list quoted_name columns
    ++ codes ") VALUES ("

-- a row after this front, over columns of which a value may be missing or not
abbrev pub sql_row : List ℕ → List Bool → Tuple → List ℕ
sql_row head nullable row = head ++ comma_list (λ cell. cell) (sql_cells nullable row) ++ (codes ");" ++ 10 ∷ [])

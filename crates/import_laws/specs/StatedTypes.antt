-- The types of columns that `import` reads back, and what it reads of them: for the laws.
use Rattle.std.specs.Prelude.{◌≡◌, ℕ, ◌==◌, Bool, not, ◌&&◌, if◌then◌else◌, true, List, [], ◌∷◌}
use Rattle.std.specs.List.{list_any}
use Rattle.schema_model.specs.declared.column_type.ColumnType.{ColumnType}
use Rattle.schema_model.specs.declared.column_type.ColumnType.TheVariants as type
use Rattle.ddl_text.specs.Ddl.{sql_type}
use Rattle.sql_lexemes.specs.declared.dialect.Dialect.{Dialect}
use Rattle.sql_lexemes.specs.Lexemes.{Lexed}
use Rattle.sql_lexemes.specs.Pieces.{is_postgres}
use Rattle.sql_definitions.specs.Elements.{ends_type}
use Rattle.sql_definitions.specs.Names.{lower_text}
use Rattle.sql_definitions.specs.Tables.{ends_element, open_after}
use Rattle.sql_definitions.specs.Types.{column_type, is_serial, type_text, written}
use Rattle.ddl_pieces.specs.Pieces.{is_sound_type, lexemes_from, type_pieces}

-- the lexemes of a type, between the brackets of a table
abbrev pub type_lexemes : ColumnType → List Lexed
type_lexemes column = lexemes_from 0 1 (type_pieces column)

-- lexemes close the brackets of an element that are open before them, and their own, and do not end it
unfoldable pub stay_within : ℕ → List Lexed → Bool
stay_within depth [] = depth == 0
stay_within depth (l ∷ ls) = not (ends_element depth l) && stay_within (open_after depth l) ls

-- a type is stated by its text: this is sound, and no lexeme of it ends the type or the column
abbrev pub states_a_type : Dialect → ColumnType → Bool
states_a_type d column =
    is_sound_type d column
    && (not (list_any ends_type (type_lexemes column)) && stay_within 0 (type_lexemes column))

-- the words of a type outside brackets, in lower case
abbrev pub type_words : ColumnType → List ℕ
type_words column = type_text true (type_lexemes column)

-- a type whose values count themselves, and are never missing
abbrev pub is_serial_type : Dialect → ColumnType → Bool
is_serial_type d column = is_serial d (type_words column)

-- the type that is read of one that is printed: PostgreSQL has those with words of their own; SQLite has text and
-- integers, and of any other of these its words in lower case; a type with a text of its own is read as its lexemes say
abbrev pub read_type : Dialect → ColumnType → ColumnType
read_type d type.Text = type.Text
read_type d type.Integer = type.Integer
read_type d (type.Other text) = column_type d (type_lexemes (type.Other text))
read_type d column = if is_postgres d then column else type.Other (lower_text (sql_type column))

-- the text of a type in the form in which `import` writes types
abbrev pub IsWrittenType : List ℕ → Type 0
IsWrittenType text = written true (type_lexemes (type.Other text)) ≡ text

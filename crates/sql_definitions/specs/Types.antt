-- The types of columns: for the columns of a table.
use Rattle.std.specs.Prelude.{ℕ, ◌+◌, ◌*◌, ◌-◌, ◌==◌, Bool, true, false, not, ◌&&◌, ◌||◌, nat_le, Option, Some, None, List, [], ◌∷◌, ◌++◌, codes, bytes_eq, length, unwrap_or, if◌then◌else◌}
use Rattle.std.specs.Char.{is_ascii_digit}
use Rattle.std.specs.List.{list_all, list_any}
use Rattle.schema_model.specs.declared.column_type.ColumnType.{ColumnType}
use Rattle.schema_model.specs.declared.column_type.ColumnType.TheVariants as type
use Rattle.schema_model.specs.Names.{is_type_text}
use Rattle.sql_lexemes.specs.declared.dialect.Dialect.{Dialect}
use Rattle.sql_lexemes.specs.declared.lexeme.LexemeKind.{LexemeKind}
use Rattle.sql_lexemes.specs.declared.lexeme.LexemeKind.TheVariants as kind
use Rattle.sql_lexemes.specs.Lexemes.{Lexed}
use Rattle.sql_lexemes.specs.Pieces.{is_postgres}
use Rattle.sql_lexemes.specs.Statements.{is_a_word, is_mark}
use Rattle.sql_definitions.specs.Names.{lower_text}

-- outside the brackets within an element
abbrev pub is_outside : Lexed → Bool
is_outside l = l.depth == 1

abbrev pub is_round : Lexed → Bool
is_round l = is_mark 40 l || is_mark 41 l

-- a word outside brackets, a bracket, or something within
abbrev pub is_word_or_within : Lexed → Bool
is_word_or_within l = not (is_outside l) || is_a_word l.kind || is_round l

-- a word, after a blank where another one stands before it
abbrev pub type_word : Bool → List ℕ → List ℕ
type_word first text = if first then lower_text text else 32 ∷ lower_text text

-- the words outside brackets in lower case, one blank between
unfoldable pub type_text : Bool → List Lexed → List ℕ
type_text first [] = []
type_text first (l ∷ ls) =
    if is_outside l && is_a_word l.kind then type_word first l.text ++ type_text false ls
    else type_text first ls

abbrev pub is_quoted_kind : LexemeKind → Bool
is_quoted_kind kind.Quoted = true
is_quoted_kind kind.Text = true
is_quoted_kind other = false

abbrev pub has_quotes : Lexed → Bool
has_quotes l = is_quoted_kind l.kind

-- a bracket that opens, or a dot: no blank follows it
abbrev pub joins : Lexed → Bool
joins l = is_mark 40 l || is_mark 91 l || is_mark 46 l

-- a lexeme as it is written in a type: a word in lower case, and a blank before a word or a number, unless it joins
-- what is before
abbrev pub written_lexeme : Bool → LexemeKind → List ℕ → List ℕ
written_lexeme joined kind.Word text = type_word joined text
written_lexeme joined kind.Number text = if joined then text else 32 ∷ text
written_lexeme joined other text = text

-- a type as it is written
unfoldable pub written : Bool → List Lexed → List ℕ
written joined [] = []
written joined (l ∷ ls) = written_lexeme joined l.kind l.text ++ written (joins l) ls

-- a type that is kept as it is written, or text
abbrev pub other_type : List Lexed → ColumnType
other_type lexemes =
    if not (list_any has_quotes lexemes) && is_type_text (written true lexemes)
    then type.Other (written true lexemes) else type.Text

-- a number of one or two digits
abbrev pub small_number : List ℕ → Option ℕ
small_number (a ∷ []) = if is_ascii_digit a then Some (a - 48) else None
small_number (a ∷ b ∷ []) =
    if is_ascii_digit a && is_ascii_digit b then Some ((a - 48) * 10 + (b - 48)) else None
small_number text = None

abbrev pub number_in : LexemeKind → List ℕ → Option ℕ
number_in kind.Number text = small_number text
number_in other text = None

-- a number of at most so much
abbrev pub is_up_to : ℕ → Option ℕ → Bool
is_up_to most None = false
is_up_to most (Some n) = nat_le n most

-- decimal with so many digits after the point, at most 9, of at most 15 in all
abbrev pub scaled : Option ℕ → Option ℕ → Option ColumnType
scaled precision None = None
scaled precision (Some scale) =
    if is_up_to 15 precision && nat_le scale 9 then Some (type.Decimal scale) else None

-- the scale in a type of one word with `(P)` or `(P, S)` after it
abbrev pub decimal_type : List Lexed → Option ColumnType
decimal_type (word ∷ left ∷ p ∷ right ∷ []) = scaled (number_in p.kind p.text) (Some 0)
decimal_type (word ∷ left ∷ p ∷ comma ∷ s ∷ right ∷ []) =
    if is_mark 44 comma then scaled (number_in p.kind p.text) (number_in s.kind s.text) else None
decimal_type lexemes = None

-- integers of both engines
abbrev pub integer_words : List (List ℕ)
integer_words =
    codes "int" ∷ codes "integer" ∷ codes "smallint" ∷ codes "bigint" ∷ codes "int2" ∷ codes "int4" ∷ codes "int8"
    ∷ codes "tinyint" ∷ codes "mediumint" ∷ []

-- integers of PostgreSQL that count themselves, and are never missing
abbrev pub serial_words : List (List ℕ)
serial_words =
    codes "serial" ∷ codes "bigserial" ∷ codes "smallserial" ∷ codes "serial2" ∷ codes "serial4" ∷ codes "serial8" ∷ []

abbrev pub is_serial : Dialect → List ℕ → Bool
is_serial d text = is_postgres d && list_any (bytes_eq text) serial_words

-- a type of PostgreSQL, by its text
abbrev pub postgres_type : List ℕ → List Lexed → ColumnType
postgres_type text lexemes =
    if list_any (bytes_eq text) serial_words then type.Integer
    else if bytes_eq text (codes "date") then type.Date
    else if bytes_eq text (codes "uuid") then type.Uuid
    else if bytes_eq text (codes "timestamp") || bytes_eq text (codes "timestamp without time zone") then type.Timestamp
    else if bytes_eq text (codes "numeric") || bytes_eq text (codes "decimal")
    then unwrap_or (decimal_type lexemes) (other_type lexemes)
    else other_type lexemes

-- a type, by its text
abbrev pub type_by_text : Dialect → List ℕ → List Lexed → ColumnType
type_by_text d text lexemes =
    if bytes_eq text [] || bytes_eq text (codes "text") then type.Text
    else if list_any (bytes_eq text) integer_words then type.Integer
    else if is_postgres d then postgres_type text lexemes
    else other_type lexemes

-- the type of a column that states none: SQLite keeps its values as they are written
abbrev pub no_type : Dialect → ColumnType
no_type d = if is_postgres d then type.Text else type.Other (codes "blob")

-- the type that some lexemes state
abbrev pub stated_type : Dialect → List Lexed → ColumnType
stated_type d lexemes =
    if list_all is_word_or_within lexemes then type_by_text d (type_text true lexemes) lexemes
    else other_type lexemes

-- the type of a column, by the lexemes that state it, if any do
abbrev pub column_type : Dialect → List Lexed → ColumnType
column_type d lexemes = if length lexemes == 0 then no_type d else stated_type d lexemes

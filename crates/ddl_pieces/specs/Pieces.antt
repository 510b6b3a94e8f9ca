-- The statements that create the tables of a design, piece by piece, and the lexemes that stand in them: for
-- the law of its text, and for the laws that read it back. `Desk` does not cite it.
use Rattle.std.specs.Prelude.{ℕ, ◌+◌, ◌-◌, ◌==◌, nat_lt, zero, suc, Bool, true, false, not, ◌&&◌, if◌then◌else◌, List, [], ◌∷◌, ◌++◌, map, take, codes, decimal, Option, Some, None, length}
use Rattle.std.specs.Char.{is_ascii_digit}
use Rattle.std.specs.List.{flat_map, list_all, prefix_len}
use Rattle.schema_model.specs.declared.column_type.ColumnType.{ColumnType}
use Rattle.schema_model.specs.declared.column_type.ColumnType.TheVariants as type
use Rattle.schema_model.specs.Schemas.{Schema}
use Rattle.sql_syntax.specs.Names.{quoted_name}
use Rattle.sql_syntax.specs.Syntax.{ColumnName, attribute, helper}
use Rattle.sql_syntax.specs.Statements.{Element, column_definition, primary_key, unique_key, foreign_key}
use Rattle.ddl_text.specs.Ddl.{elements_made}
use Rattle.ddl_text.specs.declared.table.TableDesign.{TableDesign}
use Rattle.sql_lexemes.specs.declared.lexeme.LexemeKind.{LexemeKind}
use Rattle.sql_lexemes.specs.declared.lexeme.LexemeKind.TheVariants as kind
use Rattle.sql_lexemes.specs.declared.dialect.Dialect.{Dialect}
use Rattle.sql_lexemes.specs.Bytes.{begins_word, is_number_byte, is_word_byte}
use Rattle.sql_lexemes.specs.Lexemes.{Lexed}
use Rattle.sql_lexemes.specs.Pieces.{is_sqlite}
use Rattle.sql_lexemes.specs.Statements.{depth_around, depth_after}

-- a piece of a text: a lexeme of a kind, or bytes between lexemes, with its bytes
pub record TextPiece : Type 0 where
  pub kind : Option LexemeKind
  pub bytes : List ℕ

abbrev pub gap : List ℕ → TextPiece
gap bytes = record { kind = None; bytes = bytes }

abbrev pub word : List ℕ → TextPiece
word bytes = record { kind = Some kind.Word; bytes = bytes }

abbrev pub number : List ℕ → TextPiece
number bytes = record { kind = Some kind.Number; bytes = bytes }

-- a name in quotes, with these quotes or without them
abbrev pub quoted_piece : List ℕ → TextPiece
quoted_piece bytes = record { kind = Some kind.Quoted; bytes = bytes }

abbrev pub quoted_name_piece : List ℕ → TextPiece
quoted_name_piece name = quoted_piece (quoted_name name)

abbrev pub mark : ℕ → TextPiece
mark b = record { kind = Some kind.Mark; bytes = b ∷ [] }

abbrev pub blank : TextPiece
blank = gap (32 ∷ [])

-- the bytes of pieces
abbrev pub text_of : List TextPiece → List ℕ
text_of pieces = flat_map (λ p. p.bytes) pieces

-- a lexeme of a kind at a place, after so many brackets that are open
abbrev pub lexeme_at : ℕ → ℕ → LexemeKind → List ℕ → Lexed
lexeme_at place depth kind bytes =
    record { kind = kind; place = place; depth = depth_around depth kind bytes; text = bytes }

-- what a piece puts before the lexemes that follow it
abbrev pub led_by_kind : ℕ → ℕ → Option LexemeKind → List ℕ → (ℕ → List Lexed) → List Lexed
led_by_kind place depth None bytes rest = rest depth
led_by_kind place depth (Some kind) bytes rest =
    lexeme_at place depth kind bytes ∷ rest (depth_after (lexeme_at place depth kind bytes))

-- the lexemes of pieces that begin at a place, after so many brackets that are open
unfoldable pub lexemes_from : ℕ → ℕ → List TextPiece → List Lexed
lexemes_from place depth [] = []
lexemes_from place depth (p ∷ ps) =
    led_by_kind place depth p.kind p.bytes (λ after. lexemes_from (place + length p.bytes) after ps)

-- what begins with a byte of the text of a type, and how many bytes it has after this one
abbrev pub kind_in_type : ℕ → Option LexemeKind
kind_in_type b =
    if b == 32 then None
    else if begins_word b then Some kind.Word
    else if is_ascii_digit b then Some kind.Number
    else Some kind.Mark

abbrev pub more_in_type : Option LexemeKind → List ℕ → ℕ
more_in_type (Some kind.Word) bs = prefix_len is_word_byte bs
more_in_type (Some kind.Number) bs = prefix_len is_number_byte bs
more_in_type other bs = 0

-- the pieces of the text of a type, after some bytes that belong to what was before
unfoldable pub pieces_in_type : ℕ → List ℕ → List TextPiece
pieces_in_type skip [] = []
pieces_in_type (suc n) (b ∷ bs) = pieces_in_type n bs
pieces_in_type zero (b ∷ bs) =
    record { kind = kind_in_type b; bytes = b ∷ take (more_in_type (kind_in_type b) bs) bs }
    ∷ pieces_in_type (more_in_type (kind_in_type b) bs) bs

-- each round bracket is paired with one that closes it, where so many are open
abbrev pub are_paired : ℕ → List ℕ → Bool
are_paired depth [] = depth == 0
are_paired depth (b ∷ bs) =
    if b == 40 then are_paired (depth + 1) bs
    else if b == 41 then nat_lt 0 depth && are_paired (depth - 1) bs
    else are_paired depth bs

-- a byte begins no quoted name: in SQLite `[` does
abbrev pub is_unquoted : Dialect → ℕ → Bool
is_unquoted d b = not (is_sqlite d && (b == 91))

-- a type whose round brackets are paired, and that quotes nothing
abbrev pub is_sound_type : Dialect → ColumnType → Bool
is_sound_type d (type.Other text) = are_paired 0 text && list_all (is_unquoted d) text
is_sound_type d column = true

-- a type of columns that a schema states by a word of its own
abbrev pub is_own_type : ColumnType → Bool
is_own_type (type.Other text) = false
is_own_type column = true

-- a type in SQL, as it is cut
abbrev pub type_pieces : ColumnType → List TextPiece
type_pieces type.Text = word (codes "TEXT") ∷ []
type_pieces type.Integer = word (codes "BIGINT") ∷ []
type_pieces type.Date = word (codes "DATE") ∷ []
type_pieces type.Timestamp = word (codes "TIMESTAMP") ∷ []
type_pieces (type.Decimal scale) =
    word (codes "DECIMAL") ∷ mark 40 ∷ number (codes "15") ∷ mark 44 ∷ blank ∷ number (decimal scale)
    ∷ mark 41 ∷ []
type_pieces type.Uuid = word (codes "UUID") ∷ []
type_pieces (type.Other text) = pieces_in_type 0 text

-- ---- elements
abbrev pub not_null : List TextPiece
not_null = blank ∷ word (codes "NOT") ∷ blank ∷ word (codes "NULL") ∷ []

-- the name of a column: a user's name stands in quotes
abbrev pub column_piece : ColumnName → TextPiece
column_piece (attribute name) = quoted_name_piece name
column_piece (helper name) = word name

-- names in round brackets, with a comma and a blank between two
abbrev pub listed_after : List ColumnName → List TextPiece
listed_after names = flat_map (λ name. mark 44 ∷ blank ∷ column_piece name ∷ []) names

abbrev pub listed : List ColumnName → List TextPiece
listed [] = []
listed (name ∷ names) = column_piece name ∷ listed_after names

abbrev pub bracketed : List ColumnName → List TextPiece
bracketed names = mark 40 ∷ (listed names ++ mark 41 ∷ [])

abbrev pub element_pieces : Element → List TextPiece
element_pieces (column_definition name type nullable) =
    column_piece name ∷ blank ∷ (pieces_in_type 0 type ++ (if nullable then [] else not_null))
element_pieces (primary_key names) = word (codes "PRIMARY") ∷ blank ∷ word (codes "KEY") ∷ blank ∷ bracketed names
element_pieces (unique_key names) = word (codes "UNIQUE") ∷ blank ∷ bracketed names
element_pieces (foreign_key names other) =
    word (codes "FOREIGN") ∷ blank ∷ word (codes "KEY") ∷ blank ∷ (bracketed names
    ++ blank ∷ word (codes "REFERENCES") ∷ blank ∷ quoted_piece other ∷ blank ∷ bracketed names)

-- elements, each on a line, with a comma between two
abbrev pub lines_after : List (List TextPiece) → List TextPiece
lines_after elements = flat_map (λ element. mark 44 ∷ gap (codes "\n  ") ∷ element) elements

abbrev pub lines_pieces : List (List TextPiece) → List TextPiece
lines_pieces [] = []
lines_pieces (element ∷ elements) = gap (codes "  ") ∷ (element ++ lines_after elements)

-- what the statement that creates a table has, but for what stands before it and the semicolon that ends it
abbrev pub create_pieces : List ℕ → List Element → List TextPiece
create_pieces name elements =
    word (codes "CREATE") ∷ blank ∷ word (codes "TABLE") ∷ blank ∷ quoted_piece name ∷ blank ∷ mark 40 ∷ gap (10 ∷ [])
    ∷ (lines_pieces (map element_pieces elements) ++ gap (10 ∷ []) ∷ mark 41 ∷ [])

-- the lexemes of the statement that creates a table, the first of which stands at a place
abbrev pub create_lexemes : ℕ → Schema → List TableDesign → TableDesign → List Lexed
create_lexemes place s tables table =
    lexemes_from place 0 (create_pieces (quoted_name table.name) (elements_made s tables table))

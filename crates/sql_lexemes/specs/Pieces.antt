-- What stands at the front of a SQL text: for the statements of a text.
use Rattle.std.specs.Prelude.{ℕ, ◌+◌, ◌==◌, ◌≤◌, Bool, true, false, ◌&&◌, Option, Some, None, List, [], ◌∷◌, take, drop, position, nat_eq, if◌then◌else◌}
use Rattle.std.specs.Char.{is_ascii_digit}
use Rattle.std.specs.List.{starts_with, prefix_len, position_or_len}
use Rattle.sql_lexemes.specs.declared.dialect.Dialect.{Dialect}
use Rattle.sql_lexemes.specs.declared.dialect.Dialect.TheVariants.{Sqlite, Postgres}
use Rattle.sql_lexemes.specs.declared.lexeme.LexemeKind.{LexemeKind}
use Rattle.sql_lexemes.specs.declared.lexeme.LexemeKind.TheVariants as kind
use Rattle.sql_lexemes.specs.declared.piece.Before.{Before}
use Rattle.sql_lexemes.specs.declared.piece.Before.TheVariants.{LineStart, WordE}
use Rattle.sql_lexemes.specs.declared.piece.Flaw.TheVariants as flaw
use Rattle.sql_lexemes.specs.declared.piece.Piece.{Piece}
use Rattle.sql_lexemes.specs.declared.piece.Piece.TheVariants as piece
use Rattle.sql_lexemes.specs.declared.scan.Within.TheVariants.{Inside}
use Rattle.sql_lexemes.specs.Bytes.{begins_word, is_word_byte, is_number_byte, is_line_feed, is_blank, is_strange}
use Rattle.sql_lexemes.specs.Ends.{comment_end, quote_end, tag_end, tag_length}

abbrev pub is_postgres : Dialect → Bool
is_postgres Postgres = true
is_postgres Sqlite = false

abbrev pub is_sqlite : Dialect → Bool
is_sqlite Postgres = false
is_sqlite Sqlite = true

abbrev pub is_line_start : Before → Bool
is_line_start LineStart = true
is_line_start before = false

abbrev pub is_after_e : Before → Bool
is_after_e WordE = true
is_after_e before = false

-- a lexeme that ends where a quote is closed, or a quote that is open
abbrev pub closed_or_open : LexemeKind → Option ℕ → Piece
closed_or_open kind None = piece.Flaw flaw.OpenQuote
closed_or_open kind (Some more) = piece.Lexeme kind more

abbrev pub between_quotes : LexemeKind → ℕ → Bool → List ℕ → Piece
between_quotes kind quote escapes rest = closed_or_open kind (quote_end quote escapes Inside 0 rest)

-- a name between square brackets, by what stands before the one that closes
abbrev pub bracketed_by : Option ℕ → Piece
bracketed_by None = piece.Flaw flaw.OpenQuote
bracketed_by (Some passed) = piece.Lexeme kind.Quoted (passed + 1)

abbrev pub bracketed_piece : List ℕ → Piece
bracketed_piece rest = bracketed_by (position (λ b. b == 93) rest)

-- a text between marks of so many bytes after their first dollar, by where the second ends after the first
abbrev pub between_tags : ℕ → Option ℕ → Piece
between_tags count None = piece.Flaw flaw.OpenQuote
between_tags count (Some end) = piece.Lexeme kind.Text (count + end)

-- after a dollar: the rest of a mark and a text to the same mark, or nothing
abbrev pub tagged : List ℕ → Option ℕ → Piece
tagged rest None = piece.Lexeme kind.Mark 0
tagged rest (Some count) = between_tags count (tag_end (take count rest) 0 (drop count rest))

abbrev pub dollar_piece : List ℕ → Piece
dollar_piece rest = tagged rest (tag_length rest)

-- a comment between `/*` and `*/`, after its slash
abbrev pub closed_comment : Option ℕ → Piece
closed_comment None = piece.Flaw flaw.OpenComment
closed_comment (Some end) = piece.Gap (end + 1)

-- those of PostgreSQL nest
abbrev pub comment_piece : Dialect → List ℕ → Piece
comment_piece d [] = piece.Flaw flaw.OpenComment
comment_piece d (star ∷ inner) = closed_comment (comment_end (is_postgres d) 0 0 0 inner)

-- what stands between single quotes: for SQLite it may also be a name, where one is wanted
abbrev pub single_kind : Dialect → LexemeKind
single_kind Postgres = kind.Text
single_kind Sqlite = kind.Quoted

-- a quoted name, a word, a number or a mark, after its first byte
abbrev pub plain_piece : Dialect → ℕ → List ℕ → Piece
plain_piece d b rest =
    if b == 34 then between_quotes kind.Quoted 34 false rest
    else if (b == 96) && is_sqlite d then between_quotes kind.Quoted 96 false rest
    else if (b == 91) && is_sqlite d then bracketed_piece rest
    else if begins_word b then piece.Lexeme kind.Word (prefix_len is_word_byte rest)
    else if is_ascii_digit b then piece.Lexeme kind.Number (prefix_len is_number_byte rest)
    else if is_strange b then piece.Flaw flaw.StrangeByte
    else piece.Lexeme kind.Mark 0

-- the piece at the front of a text, after what stands before it
unfoldable pub front_piece : Dialect → Before → List ℕ → Piece
front_piece d before [] = piece.Gap 0
front_piece d before (b ∷ bs) =
    if is_blank b then piece.Gap 0
    else if ((b == 92) && is_postgres d) && is_line_start before then piece.Gap (position_or_len is_line_feed bs)
    else if (b == 45) && starts_with nat_eq bs (45 ∷ []) then piece.Gap (position_or_len is_line_feed bs)
    else if (b == 47) && starts_with nat_eq bs (42 ∷ []) then comment_piece d bs
    else if b == 39 then between_quotes (single_kind d) 39 (is_postgres d && is_after_e before) bs
    else if (b == 36) && is_postgres d then dollar_piece bs
    else plain_piece d b bs

-- the bytes of a piece after its first are among so many
abbrev pub FitsPiece : ℕ → Piece → Type 0
FitsPiece n (piece.Gap more) = more ≤ n
FitsPiece n (piece.Lexeme kind more) = more ≤ n
FitsPiece n (piece.Flaw why) = Unit {0}

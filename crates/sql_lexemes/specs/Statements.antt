-- The statements of a SQL text: for `cut_statement`, and for all that reads statements.
use Rattle.std.specs.Prelude.{◌≡◌, ℕ, ◌+◌, ◌-◌, ◌==◌, ◌<◌, zero, suc, Bool, true, false, ◌&&◌, Option, Some, None, List, [], ◌∷◌, ◌++◌, length, take, drop, codes, bytes_eq, if◌then◌else◌}
use Rattle.schema_model.specs.Names.{same_name}
use Rattle.sql_lexemes.specs.declared.dialect.Dialect.{Dialect}
use Rattle.sql_lexemes.specs.declared.lexeme.LexemeKind.{LexemeKind}
use Rattle.sql_lexemes.specs.declared.lexeme.LexemeKind.TheVariants as kind
use Rattle.sql_lexemes.specs.declared.piece.Before.{Before}
use Rattle.sql_lexemes.specs.declared.piece.Before.TheVariants.{LineStart, WordE, Other}
use Rattle.sql_lexemes.specs.declared.piece.Flaw.{Flaw}
use Rattle.sql_lexemes.specs.declared.piece.Piece.{Piece}
use Rattle.sql_lexemes.specs.declared.piece.Piece.TheVariants as piece
use Rattle.sql_lexemes.specs.Lexemes.{Lexed}
use Rattle.sql_lexemes.specs.Pieces.{front_piece, is_postgres}
use Rattle.sql_lexemes.specs.declared.data.Line.{Line}
use Rattle.sql_lexemes.specs.declared.data.Line.TheVariants.{Start, Backslash, Last, Another}
use Rattle.sql_lexemes.specs.declared.statement.Rest.{Rest}
use Rattle.sql_lexemes.specs.declared.statement.Statement.{Statement}
use Rattle.sql_lexemes.specs.declared.statement.Cut.{Cut}

-- the lexemes of a statement, how many bytes of the text stand before its end, and why the text ends there, if it
-- ends before its end
pub record Stated : Type 0 where
  pub lexemes : List Lexed
  pub end : ℕ
  pub flaw : Option Flaw

-- a lexeme that is this word, ASCII case aside
abbrev pub is_a_word : LexemeKind → Bool
is_a_word kind.Word = true
is_a_word other = false

abbrev pub is_word : List ℕ → Lexed → Bool
is_word word l = is_a_word l.kind && same_name l.text word

-- a mark of this byte
abbrev pub is_a_mark : LexemeKind → Bool
is_a_mark kind.Mark = true
is_a_mark other = false

abbrev pub is_mark : ℕ → Lexed → Bool
is_mark b l = is_a_mark l.kind && bytes_eq l.text (b ∷ [])

-- what stands right before the bytes that follow
abbrev pub before_next : Lexed → Before
before_next l = if is_word (codes "e") l then WordE else Other

abbrev pub before_after_gap : ℕ → Before
before_after_gap b = if b == 10 then LineStart else Other

-- where the reading of a text stands: what was before, how many bytes, where the last lexeme ended, how many
-- round brackets are open, and the lexemes of the statement so far
pub record Scan : Type 0 where
  pub before : Before
  pub place : ℕ
  pub end : ℕ
  pub depth : ℕ
  pub lexemes : List Lexed

abbrev pub scan_from : Before → ℕ → Scan
scan_from before place = record { before = before; place = place; end = place; depth = 0; lexemes = [] }

-- how many brackets are open around a lexeme and after it; a bracket that closes none counts as nothing
abbrev pub depth_around : ℕ → LexemeKind → List ℕ → ℕ
depth_around depth kind text = if is_a_mark kind && bytes_eq text (41 ∷ []) then depth - 1 else depth

abbrev pub depth_after : Lexed → ℕ
depth_after l = if is_mark 40 l then l.depth + 1 else l.depth

-- a lexeme of these, in a scan
abbrev pub lexeme_in : Scan → LexemeKind → List ℕ → Lexed
lexeme_in s kind text = record { kind = kind; place = s.place; depth = depth_around s.depth kind text; text = text }

-- a scan after a gap that begins with a byte, with so many bytes after it
abbrev pub after_gap : Scan → ℕ → ℕ → Scan
after_gap s b more = record {
  before = before_after_gap b;
  place = s.place + (more + 1);
  end = s.end;
  depth = s.depth;
  lexemes = s.lexemes;
}

-- a scan after a lexeme of a byte and so many after it
abbrev pub after_lexeme : Scan → Lexed → ℕ → Scan
after_lexeme s l more = record {
  before = before_next l;
  place = s.place + (more + 1);
  end = s.place + (more + 1);
  depth = depth_after l;
  lexemes = s.lexemes ++ l ∷ [];
}

-- a `;` outside brackets
abbrev pub ends_statement : Lexed → Bool
ends_statement l = is_mark 59 l && (l.depth == 0)

abbrev pub is_from_stdin : List Lexed → Bool
is_from_stdin (a ∷ b ∷ []) = is_word (codes "from") a && is_word (codes "stdin") b
is_from_stdin lexemes = false

-- the words FROM STDIN stand last
abbrev pub ends_from_stdin : List Lexed → Bool
ends_from_stdin lexemes = is_from_stdin (drop (length lexemes - 2) lexemes)

abbrev pub begins_with : List ℕ → List Lexed → Bool
begins_with word [] = false
begins_with word (l ∷ ls) = is_word word l

-- data follows a statement: it begins with COPY and ends with FROM STDIN
abbrev pub is_before_data : Dialect → List Lexed → Bool
is_before_data d lexemes = (is_postgres d && begins_with (codes "copy") lexemes) && ends_from_stdin lexemes

abbrev pub is_last_line : Line → Bool
is_last_line Last = true
is_last_line line = false

-- a line after one byte more
abbrev pub line_with_byte : Line → ℕ → Line
line_with_byte Start b = if b == 10 then Start else if b == 92 then Backslash else Another
line_with_byte Backslash b = if b == 10 then Start else if b == 46 then Last else Another
line_with_byte Last b = if b == 10 then Start else if b == 13 then Last else Another
line_with_byte Another b = if b == 10 then Start else Another

-- how many bytes there are up to the end of the line `\.` and with it, where so many are passed: first the rest of
-- a line, then whole lines; carriage returns at the end of that line aside
unfoldable pub data_end : Line → ℕ → List ℕ → ℕ
data_end line passed [] = passed
data_end line passed (b ∷ bs) =
    if (b == 10) && is_last_line line then passed + 1 else data_end (line_with_byte line b) (passed + 1) bs

-- how many bytes after a statement are passed over
abbrev pub data_after : Dialect → List Lexed → List ℕ → ℕ
data_after d lexemes rest = if is_before_data d lexemes then data_end Another 0 rest else 0

abbrev pub before_statement : ℕ → Before
before_statement passed = if passed == 0 then Other else LineStart

-- the statement of a scan
abbrev pub stated : Scan → Stated
stated s = record { lexemes = s.lexemes; end = s.end; flaw = None }

-- the statement of a scan that a flaw ends
abbrev pub stated_until : Scan → Flaw → Stated
stated_until s why = record { lexemes = s.lexemes; end = s.place; flaw = Some why }

-- the statements from a lexeme on, that has so many bytes after its first, with what follows
abbrev pub led_by_lexeme : Dialect → Scan → Lexed → ℕ → List ℕ → (ℕ → Scan → List Stated) → List Stated
led_by_lexeme d s l more bs after =
    if ends_statement l
    then stated s ∷ after (more + data_after d s.lexemes (drop more bs))
    (scan_from (before_statement (data_after d s.lexemes (drop more bs)))
    ((s.place + (more + 1)) + data_after d s.lexemes (drop more bs)))
    else after more (after_lexeme s l more)

-- the statements from a piece on, that begins with a byte; of what is left after some bytes more they come from
-- `after`
abbrev pub led_by : Dialect → Scan → ℕ → List ℕ → Piece → (ℕ → Scan → List Stated) → List Stated
led_by d s b bs (piece.Gap more) after = after more (after_gap s b more)
led_by d s b bs (piece.Flaw why) after = stated_until s why ∷ []
led_by d s b bs (piece.Lexeme kind more) after =
    led_by_lexeme d s (lexeme_in s kind (take (more + 1) (b ∷ bs))) more bs after

-- the statements of a text after some bytes that belong to what was before, in a scan
unfoldable pub statements_after : Dialect → ℕ → Scan → List ℕ → List Stated
statements_after d skip s [] = stated s ∷ []
statements_after d (suc n) s (b ∷ bs) = statements_after d n s bs
statements_after d zero s (b ∷ bs) =
    led_by d s b bs (front_piece d s.before (b ∷ bs)) (λ skip next. statements_after d skip next bs)

-- the statements of a text
abbrev pub statements_of : Dialect → List ℕ → List Stated
statements_of d text = statements_after d 0 (scan_from LineStart 0) text

-- a statement as code has it
abbrev pub statement_value : Statement → Stated
statement_value s = record { lexemes = s.lexemes.items; end = s.end; flaw = s.flaw }

-- the statements of what is left
abbrev pub statements_in : Dialect → Option Rest → List Stated
statements_in d None = []
statements_in d (Some rest) = statements_after d 0 (scan_from rest.before rest.place) rest.text.now

-- what is left is shorter, and its place is that of the text's end less its length
abbrev pub FitsRest : ℕ → ℕ → Option Rest → Type 0
FitsRest place size None = Unit {0}
FitsRest place size (Some rest) =
    (rest.place + length rest.text.now ≡ place + size) × (length rest.text.now < size)

-- the first statement of a text is cut off
pub record CutsStatement (d : Dialect) (text : Rest) (cut : Cut) : Type 0 where
  pub first : statements_in d (Some text) ≡ statement_value cut.statement ∷ statements_in d cut.rest
  pub fits : FitsRest text.place (length text.text.now) cut.rest

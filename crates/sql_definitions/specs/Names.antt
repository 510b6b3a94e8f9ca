-- The names that lexemes stand for: for columns, keys and tables.
use Rattle.std.specs.Prelude.{ℕ, ◌+◌, ◌-◌, ◌==◌, Bool, true, false, ◌&&◌, List, [], ◌∷◌, length, take, drop, map, if◌then◌else◌}
use Rattle.std.specs.Char.{is_ascii_uppercase}
use Rattle.sql_lexemes.specs.declared.dialect.Dialect.{Dialect}
use Rattle.sql_lexemes.specs.declared.lexeme.LexemeKind.{LexemeKind}
use Rattle.sql_lexemes.specs.declared.lexeme.LexemeKind.TheVariants as kind
use Rattle.sql_lexemes.specs.Lexemes.{Lexed}
use Rattle.sql_lexemes.specs.Pieces.{is_postgres}
use Rattle.sql_lexemes.specs.Statements.{is_mark}

-- a letter of ASCII in lower case
abbrev pub lower : ℕ → ℕ
lower b = if is_ascii_uppercase b then b + 32 else b

abbrev pub lower_text : List ℕ → List ℕ
lower_text bytes = map lower bytes

-- bytes with each quote that stands after a quote left out, but for one that itself was left out; the last one was
-- such a quote or not
unfoldable pub undoubled : ℕ → Bool → List ℕ → List ℕ
undoubled quote after [] = []
undoubled quote after (b ∷ bs) =
    if after && (b == quote) then undoubled quote false bs else b ∷ undoubled quote (b == quote) bs

-- what stands between the first byte and the last one
abbrev pub inner : List ℕ → List ℕ
inner text = take (length text - 2) (drop 1 text)

-- the name in a text between quotes: square brackets double nothing
abbrev pub unquoted : List ℕ → List ℕ
unquoted [] = []
unquoted (b ∷ bs) = if b == 91 then inner (b ∷ bs) else undoubled b false (inner (b ∷ bs))

-- the name that a word or a quoted name stands for
abbrev pub name_by_kind : Dialect → LexemeKind → List ℕ → List ℕ
name_by_kind d kind.Quoted text = unquoted text
name_by_kind d other text = if is_postgres d then lower_text text else text

abbrev pub name_of_lexeme : Dialect → Lexed → List ℕ
name_of_lexeme d l = name_by_kind d l.kind l.text

abbrev pub is_named : LexemeKind → Bool
is_named kind.Word = true
is_named kind.Quoted = true
is_named other = false

-- a lexeme that may be a name
abbrev pub is_name : Lexed → Bool
is_name l = is_named l.kind

-- a dot and a name stand at the front
abbrev pub goes_on : List Lexed → Bool
goes_on (dot ∷ l ∷ ls) = is_mark 46 dot && is_name l
goes_on lexemes = false

-- how many lexemes a name of several parts has at the front: one to three words or quoted names with a dot between two
abbrev pub name_length : List Lexed → ℕ
name_length lexemes = if goes_on (drop 1 lexemes) then (if goes_on (drop 3 lexemes) then 5 else 3) else 1

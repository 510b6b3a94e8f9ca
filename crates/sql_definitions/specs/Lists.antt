-- Lists of columns in brackets, and which of their parts are columns: for the keys of a table.
use Rattle.std.specs.Prelude.{ℕ, ◌+◌, ◌==◌, Bool, true, false, not, ◌&&◌, ◌||◌, Option, Some, None, Result, Ok, List, [], ◌∷◌, ◌++◌, length, take, drop, codes, if◌then◌else◌}
use Rattle.std.specs.List.{list_any, position_or_len}
use Rattle.lexer.specs.Quotes as quotes
use Rattle.sql_lexemes.specs.declared.dialect.Dialect.{Dialect}
use Rattle.sql_lexemes.specs.Lexemes.{Lexed}
use Rattle.sql_lexemes.specs.Statements.{is_mark, is_word}
use Rattle.sql_definitions.specs.declared.refusal.Reason.TheVariants as reason
use Rattle.sql_definitions.specs.declared.refusal.Refusal.{Refusal}
use Rattle.sql_definitions.specs.Facts.{StatedPart, refused}
use Rattle.sql_definitions.specs.Names.{name_of_lexeme, is_name, name_length}

-- bytes, where they are the name of an attribute
abbrev pub name_of : List ℕ → Option (List ℕ)
name_of bytes = if quotes.is_name bytes then Some bytes else None

-- the column that a lexeme names
abbrev pub part_of : Dialect → Lexed → StatedPart
part_of d l = record { place = l.place; name = name_of (name_of_lexeme d l) }

-- the bracket that closes a list, whose own bracket stands in so many
abbrev pub closes_list : ℕ → Lexed → Bool
closes_list depth l = is_mark 41 l && (l.depth == depth)

-- a comma between two parts of such a list
abbrev pub parts_list : ℕ → Lexed → Bool
parts_list depth l = is_mark 44 l && (l.depth == depth + 1)

-- the parts of a list whose bracket stands in so many, after those before: each begins with a name, and then what you
-- like follows up to a comma or the bracket; the statement ends at a place
unfoldable pub list_parts : Dialect → ℕ → ℕ → Bool → List StatedPart → List Lexed → Result (List StatedPart) Refusal
list_parts d end depth true parts [] = refused reason.ExpectedName end
list_parts d end depth false parts [] = refused reason.ExpectedCommaOrBracket end
list_parts d end depth true parts (l ∷ ls) =
    if is_name l then list_parts d end depth false (parts ++ part_of d l ∷ []) ls
    else refused reason.ExpectedName l.place
list_parts d end depth false parts (l ∷ ls) =
    if closes_list depth l then Ok parts else list_parts d end depth (parts_list depth l) parts ls

-- a list: a bracket, parts with commas between, a bracket
abbrev pub read_list : Dialect → ℕ → List Lexed → Result (List StatedPart) Refusal
read_list d end [] = refused reason.ExpectedBracket end
read_list d end (l ∷ ls) =
    if is_mark 40 l then list_parts d end l.depth true [] ls else refused reason.ExpectedBracket l.place

-- ---- which parts are columns
-- COLLATE and a name are left off
abbrev pub past_collation : List Lexed → List Lexed
past_collation (a ∷ b ∷ ls) =
    if is_word (codes "collate") a && is_name b then drop (name_length (b ∷ ls)) (b ∷ ls) else a ∷ b ∷ ls
past_collation lexemes = lexemes

-- the words that name no class of operators
abbrev pub order_words : List (List ℕ)
order_words = codes "collate" ∷ codes "asc" ∷ codes "desc" ∷ codes "nulls" ∷ []

abbrev pub is_one_of : List (List ℕ) → Lexed → Bool
is_one_of words l = list_any (λ word. is_word word l) words

-- the name of a class of operators is left off
abbrev pub past_class : List Lexed → List Lexed
past_class [] = []
past_class (l ∷ ls) = if is_name l && not (is_one_of order_words l) then ls else l ∷ ls

-- ASC or DESC is left off
abbrev pub past_direction : List Lexed → List Lexed
past_direction [] = []
past_direction (l ∷ ls) = if is_one_of (codes "asc" ∷ codes "desc" ∷ []) l then ls else l ∷ ls

-- NULLS FIRST or NULLS LAST is left off
abbrev pub past_nulls_order : List Lexed → List Lexed
past_nulls_order (a ∷ b ∷ ls) =
    if is_word (codes "nulls") a && is_one_of (codes "first" ∷ codes "last" ∷ []) b then ls else a ∷ b ∷ ls
past_nulls_order lexemes = lexemes

-- the name of a column in a list is followed by nothing but these
abbrev pub ends_column : List Lexed → Bool
ends_column lexemes = length (past_nulls_order (past_direction (past_class (past_collation lexemes)))) == 0

-- how many lexemes stand before the end of a part
abbrev pub part_length : ℕ → List Lexed → ℕ
part_length depth lexemes = position_or_len (λ l. parts_list depth l || closes_list depth l) lexemes

-- each part of such a list is a column and no expression
unfoldable pub are_columns : ℕ → Bool → List Lexed → Bool
are_columns depth begins [] = not begins
are_columns depth true (l ∷ ls) =
    (is_name l && ends_column (take (part_length depth ls) ls)) && are_columns depth false ls
are_columns depth false (l ∷ ls) = closes_list depth l || are_columns depth (parts_list depth l) ls

-- the same, from the bracket of the list on
abbrev pub lists_columns : List Lexed → Bool
lists_columns [] = false
lists_columns (l ∷ ls) = are_columns l.depth true ls

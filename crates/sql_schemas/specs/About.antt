-- Which statements of a text are about a table: for the law that no others say anything of it.
use Rattle.std.specs.Prelude.{◌+◌, ◌==◌, Bool, true, false, not, ◌&&◌, ◌||◌, Option, Some, None, List, ◌∷◌, length, drop, codes, if◌then◌else◌}
use Rattle.sql_lexemes.specs.declared.dialect.Dialect.{Dialect}
use Rattle.sql_lexemes.specs.declared.piece.Flaw.{Flaw}
use Rattle.sql_lexemes.specs.Lexemes.{Lexed}
use Rattle.sql_lexemes.specs.Statements.{Stated, is_word}
use Rattle.sql_definitions.specs.Tables.{after_alter, after_create, before_on, is_meant, past_word}
use Rattle.sql_definitions.specs.Wanted.{TableName}

-- the rest of a statement from the name of the table on over which it makes a unique index
abbrev pub after_index : List Lexed → Option (List Lexed)
after_index (a ∷ b ∷ c ∷ ls) =
    if ((is_word (codes "create") a && is_word (codes "unique") b) && is_word (codes "index") c)
    && not (before_on ls == length ls)
    then Some (past_word (codes "only") (drop (before_on ls + 1) ls)) else None
after_index lexemes = None

-- the first of two that is there
abbrev pub first_of : Option (List Lexed) → Option (List Lexed) → Option (List Lexed)
first_of (Some rest) other = Some rest
first_of None other = other

-- the rest of a statement from the name of the table on that it creates or alters, or over which it makes a unique
-- index
abbrev pub after_table : List Lexed → Option (List Lexed)
after_table lexemes = first_of (after_create lexemes) (first_of (after_alter lexemes) (after_index lexemes))

-- a name stands there, and is meant
abbrev pub is_meant_in : Dialect → TableName → Option (List Lexed) → Bool
is_meant_in d wanted None = false
is_meant_in d wanted (Some rest) = is_meant d wanted rest

abbrev pub is_flawed : Option Flaw → Bool
is_flawed None = false
is_flawed (Some why) = true

-- a statement is about the table that is wanted: it creates or alters it, or makes a unique index over it; or the text
-- ends in it, for a flaw
abbrev pub is_about : Dialect → TableName → Stated → Bool
is_about d wanted s = is_flawed s.flaw || is_meant_in d wanted (after_table s.lexemes)

-- The statements that create a table, add a key to it or make a unique index over it: for the definition of a table.
use Rattle.std.specs.Prelude.{ℕ, ◌+◌, ◌-◌, ◌==◌, zero, suc, nat_le, Bool, true, false, not, ◌&&◌, ◌||◌, Option, Some, None, option_and_then, option_map, Ok, List, [], ◌∷◌, length, take, drop, codes, slice_get, if◌then◌else◌}
use Rattle.std.specs.List.{list_any, position_or_len}
use Rattle.schema_model.specs.Names.{same_name}
use Rattle.sql_lexemes.specs.declared.dialect.Dialect.{Dialect}
use Rattle.sql_lexemes.specs.Lexemes.{Lexed}
use Rattle.sql_lexemes.specs.Statements.{is_word, is_mark, is_a_word}
use Rattle.sql_definitions.specs.declared.definition.KeyKind.{KeyKind}
use Rattle.sql_definitions.specs.declared.definition.KeyKind.TheVariants as key
use Rattle.sql_definitions.specs.declared.refusal.Reason.TheVariants as reason
use Rattle.sql_definitions.specs.Elements.{element, key_constraint, after_constraint, begins_constraint, begins_not_distinct}
use Rattle.sql_definitions.specs.Facts.{Facts, Outcome, refused, then_read, state_key, as_found}
use Rattle.sql_definitions.specs.Lists.{are_columns, list_parts, closes_list, is_one_of}
use Rattle.sql_definitions.specs.Names.{name_of_lexeme, is_name, name_length}
use Rattle.sql_definitions.specs.Wanted.{TableName}

-- what follows a word, where the lexemes begin with it
abbrev pub after_word : List ℕ → List Lexed → Option (List Lexed)
after_word word [] = None
after_word word (l ∷ ls) = if is_word word l then Some ls else None

-- a word at the front is left off
abbrev pub past_word : List ℕ → List Lexed → List Lexed
past_word word [] = []
past_word word (l ∷ ls) = if is_word word l then ls else l ∷ ls

abbrev pub temporary_words : List (List ℕ)
temporary_words = codes "temp" ∷ codes "temporary" ∷ codes "unlogged" ∷ []

abbrev pub past_temporary : List Lexed → List Lexed
past_temporary [] = []
past_temporary (l ∷ ls) = if is_one_of temporary_words l then ls else l ∷ ls

-- IF NOT EXISTS is left off
abbrev pub past_if_not_exists : List Lexed → List Lexed
past_if_not_exists (a ∷ b ∷ c ∷ ls) =
    if (is_word (codes "if") a && is_word (codes "not") b) && is_word (codes "exists") c then ls
    else a ∷ b ∷ c ∷ ls
past_if_not_exists lexemes = lexemes

-- IF EXISTS is left off
abbrev pub past_if_exists : List Lexed → List Lexed
past_if_exists (a ∷ b ∷ ls) =
    if is_word (codes "if") a && is_word (codes "exists") b then ls else a ∷ b ∷ ls
past_if_exists lexemes = lexemes

-- USING and a word are left off
abbrev pub past_using : List Lexed → List Lexed
past_using (a ∷ b ∷ ls) = if is_word (codes "using") a && is_a_word b.kind then ls else a ∷ b ∷ ls
past_using lexemes = lexemes

-- the rest of a statement from the name of the table on that it creates
abbrev pub after_create : List Lexed → Option (List Lexed)
after_create lexemes =
    option_map past_if_not_exists
    (option_and_then (λ rest. after_word (codes "table") (past_temporary rest)) (after_word (codes "create") lexemes))

-- the rest of a statement from the name of the table on that it alters
abbrev pub after_alter : List Lexed → Option (List Lexed)
after_alter lexemes =
    option_map (λ rest. past_word (codes "only") (past_if_exists rest))
    (option_and_then (after_word (codes "table")) (after_word (codes "alter") lexemes))

abbrev pub is_named_so : Dialect → List ℕ → Option Lexed → Bool
is_named_so d wanted None = false
is_named_so d wanted (Some l) = is_name l && same_name (name_of_lexeme d l) wanted

-- a part of a name is this one, or none is wanted
abbrev pub is_wanted_part : Dialect → Option (List ℕ) → Option Lexed → Bool
is_wanted_part d None l = true
is_wanted_part d (Some wanted) l = is_named_so d wanted l

-- the lexeme that stands so many before the end of a name of so many lexemes
abbrev pub part_from_end : List Lexed → ℕ → ℕ → Option Lexed
part_from_end lexemes n back = if nat_le back n then slice_get lexemes (n - back) else None

-- a name of so many lexemes is meant: its parts end with those that are wanted
abbrev pub is_meant_by : Dialect → TableName → List Lexed → ℕ → Bool
is_meant_by d wanted lexemes n =
    (is_named_so d wanted.last (part_from_end lexemes n 1)
    && is_wanted_part d wanted.middle (part_from_end lexemes n 3))
    && is_wanted_part d wanted.outer (part_from_end lexemes n 5)

abbrev pub is_meant : Dialect → TableName → List Lexed → Bool
is_meant d wanted lexemes = is_meant_by d wanted lexemes (name_length lexemes)

-- where the first lexeme stands, or the end
abbrev pub place_of : ℕ → List Lexed → ℕ
place_of end [] = end
place_of end (l ∷ ls) = l.place

-- brackets within an element, round or square
abbrev pub is_opening : Lexed → Bool
is_opening l = is_mark 40 l || is_mark 91 l

abbrev pub is_closing : Lexed → Bool
is_closing l = is_mark 41 l || is_mark 93 l

-- how many brackets of an element are open after a lexeme, where so many were: one that closes none counts as nothing
abbrev pub open_after : ℕ → Lexed → ℕ
open_after depth l = if is_opening l then depth + 1 else if is_closing l then depth - 1 else depth

-- an element, of which so many brackets are open, ends before a lexeme: a comma, or the bracket that closes the table
abbrev pub ends_element : ℕ → Lexed → Bool
ends_element depth l = (depth == 0) && (is_mark 44 l || is_mark 41 l)

-- how many lexemes stand before the end of an element, of which so many brackets are open
unfoldable pub length_left : ℕ → List Lexed → ℕ
length_left depth [] = 0
length_left depth (l ∷ ls) = if ends_element depth l then 0 else suc (length_left (open_after depth l) ls)

abbrev pub element_length : List Lexed → ℕ
element_length lexemes = length_left 0 lexemes

-- the bracket that closes the table stands at the front
abbrev pub closes_table : List Lexed → Bool
closes_table [] = false
closes_table (l ∷ ls) = is_mark 41 l

-- a table is closed at a place: a table without a column is none
abbrev pub closed_table : ℕ → Facts → Outcome
closed_table place f = if length f.columns == 0 then refused reason.ExpectedName place else Ok f

-- what follows an element: the end of the statement, the bracket that closes the table, or a comma and more elements
abbrev pub after_element : ℕ → List Lexed → (Facts → Outcome) → Facts → Outcome
after_element end [] more f = refused reason.ExpectedCommaOrBracket end
after_element end (l ∷ ls) more f = if is_mark 41 l then closed_table l.place f else more f

-- the elements of a table after some lexemes that belong to what was before; the statement ends at a place
unfoldable pub elements : Dialect → ℕ → ℕ → List Lexed → Facts → Outcome
elements d end skip [] f = refused reason.ExpectedName end
elements d end (suc n) (l ∷ ls) f = elements d end n ls f
elements d end zero (l ∷ ls) f =
    then_read
    (element d (place_of end (drop (element_length (l ∷ ls)) (l ∷ ls))) (take (element_length (l ∷ ls)) (l ∷ ls)) f)
    (after_element end (drop (element_length (l ∷ ls)) (l ∷ ls)) (elements d end (element_length (l ∷ ls)) ls))

-- what follows the name of a table that is created
abbrev pub open_table : Dialect → ℕ → List Lexed → Facts → Outcome
open_table d end [] f = refused reason.ExpectedBracket end
open_table d end (l ∷ ls) f =
    if is_mark 40 l then elements d end 0 ls f else refused reason.ExpectedBracket l.place

-- a table that is meant is created; its name is at the front
abbrev pub create_table : Dialect → ℕ → List Lexed → Facts → Outcome
create_table d end lexemes f =
    if f.found then refused reason.TableDefinedTwice (place_of end lexemes)
    else open_table d end (drop (name_length lexemes) lexemes) (as_found f)

-- a key is added to a table, after the word ADD
abbrev pub add_key : Dialect → ℕ → List Lexed → Facts → Outcome
add_key d end [] f = Ok f
add_key d end (l ∷ ls) f =
    if is_word (codes "constraint") l then after_constraint end ls (λ rest. key_constraint d end rest f)
    else key_constraint d end (l ∷ ls) f

-- what follows the word ADD, which stands at a place: what is no constraint alters the table, and one with the word
-- USING is passed over
abbrev pub add_to_table : Dialect → ℕ → ℕ → List Lexed → Facts → Outcome
add_to_table d end place [] f = Ok f
add_to_table d end place (l ∷ ls) f =
    if not (is_word (codes "constraint") l || begins_constraint l ls) then refused reason.TableAltered place
    else if list_any (is_word (codes "using")) (l ∷ ls) then Ok f
    else add_key d end (l ∷ ls) f

-- the words that alter the columns or the keys of a table
abbrev pub altering_words : List (List ℕ)
altering_words = codes "drop" ∷ codes "rename" ∷ []

-- what follows the name of a table that is altered
abbrev pub alter_table : Dialect → ℕ → List Lexed → Facts → Outcome
alter_table d end [] f = Ok f
alter_table d end (l ∷ ls) f =
    if is_word (codes "add") l then add_to_table d end l.place ls f
    else if is_one_of altering_words l then refused reason.TableAltered l.place
    else Ok f

-- a word outside all brackets
abbrev pub is_on : Lexed → Bool
is_on l = (l.depth == 0) && is_word (codes "on") l

abbrev pub is_where : Lexed → Bool
is_where l = (l.depth == 0) && is_word (codes "where") l

-- NULLS NOT DISTINCT stands outside all brackets
unfoldable pub says_not_distinct : List Lexed → Bool
says_not_distinct [] = false
says_not_distinct (l ∷ ls) =
    ((l.depth == 0) && begins_not_distinct (l ∷ ls)) || says_not_distinct ls

-- what stands after the bracket that closes a list
abbrev pub after_list : List Lexed → List Lexed
after_list lexemes = drop (position_or_len (closes_list 0) lexemes) lexemes

-- what a unique index states, by the lexemes after the bracket of its list
abbrev pub index_kind : List Lexed → KeyKind
index_kind lexemes = if says_not_distinct (after_list lexemes) then key.UniqueMissing else key.Unique

-- the list of a unique index: one in which an expression stands is passed over
abbrev pub index_list : Dialect → ℕ → ℕ → List Lexed → Facts → Outcome
index_list d end place [] f = Ok f
index_list d end place (l ∷ ls) f =
    if is_mark 40 l && are_columns 0 true ls
    then then_read (list_parts d end 0 true [] ls) (λ parts. state_key (index_kind ls) place parts f)
    else Ok f

-- how many lexemes stand before ON
abbrev pub before_on : List Lexed → ℕ
before_on lexemes = position_or_len is_on lexemes

-- a unique index over a table whose name is at the front
abbrev pub index_over : Dialect → TableName → ℕ → ℕ → List Lexed → Facts → Outcome
index_over d wanted end place table f =
    if is_meant d wanted table
    then index_list d end place (past_using (drop (name_length table) table)) f
    else Ok f

-- a unique index, whose lexemes after the word INDEX these are; one with a WHERE is passed over
abbrev pub unique_index : Dialect → TableName → ℕ → ℕ → List Lexed → Facts → Outcome
unique_index d wanted end place lexemes f =
    if (before_on lexemes == length lexemes) || list_any is_where lexemes then Ok f
    else index_over d wanted end place (past_word (codes "only") (drop (before_on lexemes + 1) lexemes)) f

-- a statement that creates a unique index
abbrev pub index_statement : Dialect → TableName → ℕ → List Lexed → Facts → Outcome
index_statement d wanted end (a ∷ b ∷ c ∷ ls) f =
    if (is_word (codes "create") a && is_word (codes "unique") b) && is_word (codes "index") c
    then unique_index d wanted end b.place ls f else Ok f
index_statement d wanted end lexemes f = Ok f

-- a statement that creates no table: by what follows ALTER TABLE
abbrev pub other_statement : Dialect → TableName → ℕ → List Lexed → Option (List Lexed) → Facts → Outcome
other_statement d wanted end lexemes None f = index_statement d wanted end lexemes f
other_statement d wanted end lexemes (Some rest) f =
    if is_meant d wanted rest then alter_table d end (drop (name_length rest) rest) f else Ok f

-- a statement, by what follows CREATE TABLE
abbrev pub statement_by : Dialect → TableName → ℕ → List Lexed → Option (List Lexed) → Facts → Outcome
statement_by d wanted end lexemes None f = other_statement d wanted end lexemes (after_alter lexemes) f
statement_by d wanted end lexemes (Some rest) f =
    if is_meant d wanted rest then create_table d end rest f else Ok f

-- a statement of these lexemes, which ends at a place
unfoldable pub read_lexemes : Dialect → TableName → ℕ → List Lexed → Facts → Outcome
read_lexemes d wanted end lexemes f = statement_by d wanted end lexemes (after_create lexemes) f

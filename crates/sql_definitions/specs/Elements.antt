-- The elements between the brackets of CREATE TABLE: columns, and what states a key.
use Rattle.std.specs.Prelude.{ℕ, Bool, true, false, not, ◌&&◌, ◌||◌, nat_lt, Option, Some, None, Ok, List, [], ◌∷◌, length, take, drop, codes, if◌then◌else◌}
use Rattle.std.specs.List.{list_any, position_or_len}
use Rattle.attr_sets.specs.declared.set.TheConstants.{MOST_ATTRIBUTES}
use Rattle.schema_model.specs.Names.{same_name}
use Rattle.sql_lexemes.specs.declared.dialect.Dialect.{Dialect}
use Rattle.sql_lexemes.specs.Lexemes.{Lexed}
use Rattle.sql_lexemes.specs.Pieces.{is_postgres}
use Rattle.sql_lexemes.specs.Statements.{is_mark, is_word, begins_with}
use Rattle.sql_definitions.specs.declared.definition.KeyKind.{KeyKind}
use Rattle.sql_definitions.specs.declared.definition.KeyKind.TheVariants as key
use Rattle.sql_definitions.specs.declared.refusal.Reason.TheVariants as reason
use Rattle.sql_definitions.specs.Facts.{Facts, StatedColumn, StatedPart, Outcome, refused, then_read, state_key, with_column}
use Rattle.sql_definitions.specs.Lists.{is_one_of, lists_columns, name_of, read_list}
use Rattle.sql_definitions.specs.Names.{name_of_lexeme, is_name}
use Rattle.sql_definitions.specs.Types.{column_type, type_text, is_serial, is_outside}

-- NULLS NOT DISTINCT stands at the front
abbrev pub begins_not_distinct : List Lexed → Bool
begins_not_distinct (a ∷ b ∷ ls) =
    (is_word (codes "nulls") a && is_word (codes "not") b) && begins_with (codes "distinct") ls
begins_not_distinct lexemes = false

-- what UNIQUE states, by what follows it
abbrev pub unique_kind : List Lexed → KeyKind
unique_kind lexemes = if begins_not_distinct lexemes then key.UniqueMissing else key.Unique

-- NULLS DISTINCT or NULLS NOT DISTINCT is left off
abbrev pub past_nulls : List Lexed → List Lexed
past_nulls (a ∷ b ∷ ls) =
    if is_word (codes "nulls") a && is_word (codes "distinct") b then ls
    else if (is_word (codes "nulls") a && is_word (codes "not") b) && begins_with (codes "distinct") ls
    then drop 1 ls
    else a ∷ b ∷ ls
past_nulls lexemes = lexemes

-- a key by a list of these parts: one in which an expression stands is passed over
abbrev pub key_of_parts : KeyKind → ℕ → Bool → Facts → List StatedPart → Outcome
key_of_parts kind place are_columns f parts = if are_columns then state_key kind place parts f else Ok f

-- a key by a list; the element ends at a place, and the word that states the key stands at another
abbrev pub key_by_list : Dialect → ℕ → KeyKind → ℕ → List Lexed → Facts → Outcome
key_by_list d end kind place lexemes f =
    then_read (read_list d end lexemes) (key_of_parts kind place (lists_columns lexemes) f)

-- what follows the word PRIMARY, which stands at a place
abbrev pub primary_key : Dialect → ℕ → ℕ → List Lexed → Facts → Outcome
primary_key d end place [] f = refused reason.ExpectedKey end
primary_key d end place (l ∷ ls) f =
    if is_word (codes "key") l then key_by_list d end key.Primary place ls f else refused reason.ExpectedKey l.place

-- PRIMARY KEY or UNIQUE with a list states a key; anything else is passed over
abbrev pub key_constraint : Dialect → ℕ → List Lexed → Facts → Outcome
key_constraint d end [] f = Ok f
key_constraint d end (l ∷ ls) f =
    if is_word (codes "primary") l then primary_key d end l.place ls f
    else if is_word (codes "unique") l then key_by_list d end (unique_kind ls) l.place (past_nulls ls) f
    else Ok f

-- for PostgreSQL LIKE names another table, whose columns are those of this one
abbrev pub is_like : Dialect → Lexed → Bool
is_like d l = is_word (codes "like") l && is_postgres d

-- LIKE stands where a name is expected
abbrev pub constraint : Dialect → ℕ → List Lexed → Facts → Outcome
constraint d end [] f = Ok f
constraint d end (l ∷ ls) f =
    if is_like d l then refused reason.ExpectedName l.place else key_constraint d end (l ∷ ls) f

-- after the word CONSTRAINT a name is left off, and then the rest is read
abbrev pub after_constraint : ℕ → List Lexed → (List Lexed → Outcome) → Outcome
after_constraint end [] rest = refused reason.ExpectedName end
after_constraint end (l ∷ ls) rest = if is_name l then rest ls else refused reason.ExpectedName l.place

-- the words that begin a constraint
abbrev pub constraint_words : List (List ℕ)
constraint_words = codes "primary" ∷ codes "unique" ∷ codes "foreign" ∷ codes "check" ∷ []

-- EXCLUDE does so before USING or a bracket
abbrev pub follows_exclude : List Lexed → Bool
follows_exclude [] = false
follows_exclude (l ∷ ls) = is_word (codes "using") l || is_mark 40 l

-- a constraint begins with a lexeme, which others follow
abbrev pub begins_constraint : Lexed → List Lexed → Bool
begins_constraint l ls =
    is_one_of constraint_words l || (is_word (codes "exclude") l && follows_exclude ls)

-- the words that end the type of a column
abbrev pub ending_words : List (List ℕ)
ending_words =
    codes "constraint" ∷ codes "not" ∷ codes "null" ∷ codes "primary" ∷ codes "unique" ∷ codes "default" ∷ codes "check"
    ∷ codes "collate" ∷ codes "references" ∷ codes "generated" ∷ codes "as" ∷ []

abbrev pub ends_type : Lexed → Bool
ends_type l = is_outside l && is_one_of ending_words l

-- how many lexemes the type has at the front
abbrev pub type_length : List Lexed → ℕ
type_length lexemes = position_or_len ends_type lexemes

-- NOT and NULL stand next to each other outside brackets
unfoldable pub says_not_null : List Lexed → Bool
says_not_null [] = false
says_not_null (l ∷ ls) =
    ((is_outside l && is_word (codes "not") l) && begins_with (codes "null") ls) || says_not_null ls

-- the key that a lexeme of a column states, if it states one: outside brackets PRIMARY before KEY, or UNIQUE
abbrev pub key_at : StatedPart → Lexed → List Lexed → Facts → Outcome
key_at part l after f =
    if not (is_outside l) then Ok f
    else if is_word (codes "unique") l then state_key (unique_kind after) l.place (part ∷ []) f
    else if is_word (codes "primary") l && begins_with (codes "key") after
    then state_key key.Primary l.place (part ∷ []) f
    else Ok f

-- the keys that a column states of itself, in their order
unfoldable pub column_keys : StatedPart → List Lexed → Facts → Outcome
column_keys part [] f = Ok f
column_keys part (l ∷ ls) f = then_read (key_at part l ls f) (column_keys part ls)

-- the column of this name, of the lexemes of its type and of what follows
abbrev pub column_of : Dialect → List ℕ → List Lexed → List Lexed → StatedColumn
column_of d name type rest = record {
  name = name;
  kind = column_type d type;
  never_missing = is_serial d (type_text true type) || says_not_null rest;
}

abbrev pub has_column_named : List StatedColumn → List ℕ → Bool
has_column_named columns name = list_any (λ c. same_name c.name name) columns

-- a column of this name, which stands at a place, with what follows the name
abbrev pub named_column : Dialect → ℕ → List Lexed → Facts → Option (List ℕ) → Outcome
named_column d place lexemes f None = refused reason.BadName place
named_column d place lexemes f (Some name) =
    if has_column_named f.columns name then refused reason.NameDeclaredTwice place
    else if nat_lt (length f.columns) MOST_ATTRIBUTES
    then column_keys (record { place = place; name = Some name }) (drop (type_length lexemes) lexemes)
    (with_column f (column_of d name (take (type_length lexemes) lexemes) (drop (type_length lexemes) lexemes)))
    else refused reason.TooManyAttributes place

-- a column: a name, and what follows
abbrev pub column : Dialect → Lexed → List Lexed → Facts → Outcome
column d l ls f =
    if is_name l then named_column d l.place ls f (name_of (name_of_lexeme d l))
    else refused reason.ExpectedName l.place

-- an element, which ends at a place
unfoldable pub element : Dialect → ℕ → List Lexed → Facts → Outcome
element d end [] f = refused reason.ExpectedName end
element d end (l ∷ ls) f =
    if is_word (codes "constraint") l then after_constraint end ls (λ rest. constraint d end rest f)
    else if begins_constraint l ls || is_like d l then constraint d end (l ∷ ls) f
    else column d l ls f

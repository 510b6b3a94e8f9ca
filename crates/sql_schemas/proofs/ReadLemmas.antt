-- What is read of a table has columns that can be those of a schema, and not too many keys: each statement keeps it so.
use Rattle.std.proofs.Common.{◌≡◌, ◌<◌, ◌≤◌, ◌+◌, ◌==◌, ◌&&◌, ◌||◌, ℕ, zero, suc, Bool, true, false, not, cond, All, IsTrue, Option, Some, None, Result, Ok, Err, List, [], ◌∷◌, length, take, drop, refl, subst, arith, length-append}
use Rattle.std.specs.Prelude.{bytes_eq, codes, nat_le, nat_lt, unwrap_or}
use Rattle.std.specs.List.{list_all, list_any}
use Rattle.std.proofs.lemmas.Bool.Decides.{nat_tests}
use Rattle.std.proofs.lemmas.List.Elements.{All-cons, All-nil}
use Rattle.attr_sets.specs.declared.set.TheConstants.{MOST_ATTRIBUTES}
use Rattle.schema_model.specs.Columns.{is_column_type}
use Rattle.schema_model.specs.Names.{IsName, is_type_text, same_name}
use Rattle.schema_model.specs.declared.column_type.ColumnType.{ColumnType}
use Rattle.schema_model.specs.declared.column_type.ColumnType.TheVariants as type
use Rattle.dep_model.specs.declared.theory.TheConstants.{MOST_DEPENDENCIES}
use Rattle.lexer.proofs.Quoting.{name_test}
use Rattle.lexer.specs.Quotes as quotes
use Rattle.sql_lexemes.specs.declared.dialect.Dialect.{Dialect}
use Rattle.sql_lexemes.specs.declared.piece.Flaw.{Flaw}
use Rattle.sql_lexemes.specs.Lexemes.{Lexed}
use Rattle.sql_lexemes.specs.Pieces.{is_postgres}
use Rattle.sql_lexemes.specs.Statements.{Stated, begins_with, is_mark, is_word, statements_of}
use Rattle.sql_definitions.specs.declared.definition.KeyKind.{KeyKind}
use Rattle.sql_definitions.specs.declared.definition.KeyKind.TheVariants as key
use Rattle.sql_definitions.specs.declared.refusal.Reason.TheVariants as reason
use Rattle.sql_definitions.specs.declared.refusal.Refusal.{Refusal}
use Rattle.sql_definitions.specs.Definitions.{definition_of, ended, flawed, is_there, read_statement, read_statements, reason_of}
use Rattle.sql_definitions.specs.Elements.{after_constraint, begins_constraint, column, column_keys, column_of, constraint, element, is_like, has_column_named, key_at, key_by_list, key_constraint, key_of_parts, named_column, past_nulls, primary_key, type_length, unique_kind}
use Rattle.sql_definitions.specs.Facts.{AreColumns, Facts, Outcome, StatedColumn, StatedPart, as_found, no_facts, refused, state_key, then_read, with_column, with_key}
use Rattle.sql_definitions.specs.Lists.{are_columns, is_one_of, list_parts, lists_columns, read_list}
use Rattle.sql_definitions.specs.Names.{is_name, name_length, name_of_lexeme}
use Rattle.sql_definitions.specs.Tables.{add_key, add_to_table, after_alter, after_create, after_element, alter_table, altering_words, before_on, closed_table, create_table, element_length, elements, index_kind, index_list, index_over, index_statement, is_meant, is_where, open_table, other_statement, past_using, past_word, read_lexemes, statement_by, unique_index}
use Rattle.sql_definitions.specs.Types.{column_type, decimal_type, has_quotes, integer_words, is_outside, is_up_to, is_word_or_within, number_in, other_type, postgres_type, scaled, serial_words, type_by_text, type_text, written}
use Rattle.sql_definitions.specs.Wanted.{TableName}
use Rattle.sql_definitions.proofs.ColumnLemmas.{columns_with}

-- what is known can become a schema
pub record IsFine (f : Facts) : Type 0 where
  pub columns : AreColumns f.columns
  pub keys : length f.keys ≤ MOST_DEPENDENCIES

abbrev Holds : Outcome → Type 0
Holds (Ok f) = IsFine f
Holds (Err refusal) = Unit {0}

holds_if : (b : Bool) (x y : Outcome) → Holds x → Holds y → Holds (cond b x y)
holds_if true x y one other = one
holds_if false x y one other = other

holds_known : (b : Bool) (x y : Outcome) → (b ≡ true → Holds x) → (b ≡ false → Holds y) → Holds (cond b x y)
holds_known true x y one other = one refl
holds_known false x y one other = other refl

then_any : {T : Type 0} (r : Result T Refusal) (next : T → Outcome) → ((x : T) → Holds (next x)) → Holds (then_read r next)
then_any (Err refusal) next each = tt
then_any (Ok x) next each = each x

then_fine : (r : Outcome) (next : Facts → Outcome) → Holds r → ((f : Facts) → IsFine f → Holds (next f)) → Holds (then_read r next)
then_fine (Err refusal) next holds each = tt
then_fine (Ok f) next holds each = each f holds

-- ---- keys
state_holds : (kind : KeyKind) (place : ℕ) (parts : List StatedPart) (f : Facts) → IsFine f → Holds (state_key kind place parts f)
state_holds kind place parts f fine =
    holds_known (nat_lt (length f.keys) MOST_DEPENDENCIES) (Ok (with_key f kind parts)) (refused reason.TooManyDependencies place)
    (λ room. record { columns = fine.columns; keys = one_more room }) (λ full. tt)
  where
    one_more : nat_lt (length f.keys) MOST_DEPENDENCIES ≡ true → length (with_key f kind parts).keys ≤ MOST_DEPENDENCIES
    one_more room =
        let size : length (with_key f kind parts).keys ≡ length f.keys + 1 = length-append f.keys _ in
        grind (arith, nat_tests, room, size)

list_holds : (d : Dialect) (end : ℕ) (kind : KeyKind) (place : ℕ) (ls : List Lexed) (f : Facts) → IsFine f
    → Holds (key_by_list d end kind place ls f)
list_holds d end kind place ls f fine =
    then_any (read_list d end ls) (key_of_parts kind place (lists_columns ls) f)
    (λ parts. holds_if (lists_columns ls) _ _ (state_holds kind place parts f fine) fine)

primary_holds : (d : Dialect) (end place : ℕ) (ls : List Lexed) (f : Facts) → IsFine f → Holds (primary_key d end place ls f)
primary_holds d end place [] f fine = tt
primary_holds d end place (l ∷ ls) f fine = holds_if (is_word (codes "key") l) _ _ (list_holds d end key.Primary place ls f fine) tt

key_holds : (d : Dialect) (end : ℕ) (ls : List Lexed) (f : Facts) → IsFine f → Holds (key_constraint d end ls f)
key_holds d end [] f fine = fine
key_holds d end (l ∷ ls) f fine =
    holds_if (is_word (codes "primary") l) _ _ (primary_holds d end l.place ls f fine)
    (holds_if (is_word (codes "unique") l) _ _ (list_holds d end (unique_kind ls) l.place (past_nulls ls) f fine) fine)

constraint_holds : (d : Dialect) (end : ℕ) (ls : List Lexed) (f : Facts) → IsFine f → Holds (constraint d end ls f)
constraint_holds d end [] f fine = fine
constraint_holds d end (l ∷ ls) f fine = holds_if (is_like d l) _ _ tt (key_holds d end (l ∷ ls) f fine)

after_holds : (end : ℕ) (ls : List Lexed) (rest : List Lexed → Outcome) → ((ls : List Lexed) → Holds (rest ls))
    → Holds (after_constraint end ls rest)
after_holds end [] rest each = tt
after_holds end (l ∷ ls) rest each = holds_if (is_name l) _ _ (each ls) tt

-- ---- columns
key_at_holds : (part : StatedPart) (l : Lexed) (after : List Lexed) (f : Facts) → IsFine f → Holds (key_at part l after f)
key_at_holds part l after f fine =
    holds_if (not (is_outside l)) _ _ fine
    (holds_if (is_word (codes "unique") l) _ _ (state_holds (unique_kind after) l.place (part ∷ []) f fine)
    (holds_if (is_word (codes "primary") l && begins_with (codes "key") after) _ _ (state_holds key.Primary l.place (part ∷ []) f fine) fine))

column_keys_hold : (part : StatedPart) (ls : List Lexed) (f : Facts) → IsFine f → Holds (column_keys part ls f)
unfolding column_keys
column_keys_hold part [] f fine = fine
column_keys_hold part (l ∷ ls) f fine =
    then_fine (key_at part l ls f) (column_keys part ls) (key_at_holds part l ls f fine) (column_keys_hold part ls)

-- types of columns
abbrev IsColumn : ColumnType → Type 0
IsColumn c = IsTrue (is_column_type c)

type_if : (b : Bool) (x y : ColumnType) → IsColumn x → IsColumn y → IsColumn (cond b x y)
type_if true x y one other = one
type_if false x y one other = other

other_column : (ls : List Lexed) → IsColumn (other_type ls)
other_column ls = by_test (list_any has_quotes ls) (is_type_text (written true ls)) refl
  where
    by_test : (b c : Bool) → is_type_text (written true ls) ≡ c
        → IsColumn (cond (not b && c) (type.Other (written true ls)) type.Text)
    by_test true c is = refl
    by_test false true is = is
    by_test false false is = refl

abbrev IsColumnOr : Option ColumnType → Type 0
IsColumnOr None = Unit {0}
IsColumnOr (Some c) = IsColumn c

scaled_column : (precision scale : Option ℕ) → IsColumnOr (scaled precision scale)
scaled_column precision None = tt
scaled_column precision (Some scale) = by_test (is_up_to 15 precision) (nat_le scale 9) refl
  where
    by_test : (b c : Bool) → nat_le scale 9 ≡ c → IsColumnOr (cond (b && c) (Some (type.Decimal scale)) None)
    by_test true true is = is
    by_test true false is = tt
    by_test false c is = tt

or_none : (b : Bool) (o : Option ColumnType) → IsColumnOr o → IsColumnOr (cond b o None)
or_none true o is = is
or_none false o is = tt

decimal_column : (ls : List Lexed) → IsColumnOr (decimal_type ls)
decimal_column [] = tt
decimal_column (a ∷ []) = tt
decimal_column (a ∷ b ∷ []) = tt
decimal_column (a ∷ b ∷ c ∷ []) = tt
decimal_column (word ∷ left ∷ p ∷ right ∷ []) = scaled_column (number_in p.kind p.text) (Some 0)
decimal_column (a ∷ b ∷ c ∷ d ∷ e ∷ []) = tt
decimal_column (word ∷ left ∷ p ∷ comma ∷ s ∷ right ∷ []) =
    or_none (is_mark 44 comma) _ (scaled_column (number_in p.kind p.text) (number_in s.kind s.text))
decimal_column (a ∷ b ∷ c ∷ d ∷ e ∷ f ∷ g ∷ ls) = tt

unwrapped : (o : Option ColumnType) (x : ColumnType) → IsColumnOr o → IsColumn x → IsColumn (unwrap_or o x)
unwrapped None x is other = other
unwrapped (Some c) x is other = is

postgres_column : (text : List ℕ) (ls : List Lexed) → IsColumn (postgres_type text ls)
postgres_column text ls =
    type_if (list_any (bytes_eq text) serial_words) _ _ refl
    (type_if (bytes_eq text (codes "date")) _ _ refl
    (type_if (bytes_eq text (codes "uuid")) _ _ refl
    (type_if (bytes_eq text (codes "timestamp") || bytes_eq text (codes "timestamp without time zone")) _ _ refl
    (type_if (bytes_eq text (codes "numeric") || bytes_eq text (codes "decimal")) _ _
    (unwrapped (decimal_type ls) (other_type ls) (decimal_column ls) (other_column ls)) (other_column ls)))))

text_column : (d : Dialect) (text : List ℕ) (ls : List Lexed) → IsColumn (type_by_text d text ls)
text_column d text ls =
    type_if (bytes_eq text [] || bytes_eq text (codes "text")) _ _ refl
    (type_if (list_any (bytes_eq text) integer_words) _ _ refl
    (type_if (is_postgres d) _ _ (postgres_column text ls) (other_column ls)))

type_column : (d : Dialect) (ls : List Lexed) → IsColumn (column_type d ls)
type_column d ls =
    type_if (length ls == 0) _ _ (type_if (is_postgres d) type.Text (type.Other (codes "blob")) refl refl)
    (type_if (list_all is_word_or_within ls) _ _ (text_column d (type_text true ls) ls) (other_column ls))

-- a new name is none of those before it
none_taken : (columns : List StatedColumn) (name : List ℕ) → has_column_named columns name ≡ false
    → All (λ c. same_name c.name name ≡ false) columns
none_taken [] name free = All-nil (λ c. same_name c.name name ≡ false)
none_taken (column ∷ columns) name free = by_first (same_name column.name name) refl free (none_taken columns name)
  where
    by_first : (b : Bool) → same_name column.name name ≡ b → (b || has_column_named columns name) ≡ false
        → (has_column_named columns name ≡ false → All (λ c. same_name c.name name ≡ false) columns)
        → All (λ c. same_name c.name name ≡ false) (column ∷ columns)
    by_first true same rest later = cc
    by_first false same rest later = All-cons (λ c. same_name c.name name ≡ false) column columns same (later rest)

named_holds : (d : Dialect) (place : ℕ) (ls : List Lexed) (f : Facts) (name : List ℕ) → IsName name → IsFine f
    → Holds (named_column d place ls f (Some name))
named_holds d place ls f name is fine =
    holds_known (has_column_named f.columns name) _ _ (λ taken. tt)
    (λ free. holds_known (nat_lt (length f.columns) MOST_ATTRIBUTES) _ _
    (λ room. column_keys_hold (record { place = place; name = Some name }) (drop (type_length ls) ls) (with_column f new)
    (record { columns = columns_with f.columns new fine.columns (none_taken f.columns name free) (below room) (type_column d own) is; keys = fine.keys }))
    (λ full. tt))
  where
    own : List Lexed
    own = take (type_length ls) ls

    new : StatedColumn
    new = column_of d name own (drop (type_length ls) ls)

    below : nat_lt (length f.columns) MOST_ATTRIBUTES ≡ true → length f.columns < MOST_ATTRIBUTES
    below room = grind (arith, nat_tests, room)

column_holds : (d : Dialect) (l : Lexed) (ls : List Lexed) (f : Facts) → IsFine f → Holds (column d l ls f)
column_holds d l ls f fine =
    holds_if (is_name l) _ _ (by_name (quotes.is_name (name_of_lexeme d l)) refl) tt
  where
    by_name : (b : Bool) → quotes.is_name (name_of_lexeme d l) ≡ b
        → Holds (named_column d l.place ls f (cond b (Some (name_of_lexeme d l)) None))
    by_name true is = named_holds d l.place ls f (name_of_lexeme d l) ((name_test (name_of_lexeme d l)).0 is) fine
    by_name false is = tt

element_holds : (d : Dialect) (end : ℕ) (ls : List Lexed) (f : Facts) → IsFine f → Holds (element d end ls f)
unfolding element
element_holds d end [] f fine = tt
element_holds d end (l ∷ ls) f fine =
    holds_if (is_word (codes "constraint") l) _ _ (after_holds end ls (λ rest. constraint d end rest f) (λ rest. constraint_holds d end rest f fine))
    (holds_if (begins_constraint l ls || is_like d l) _ _ (constraint_holds d end (l ∷ ls) f fine) (column_holds d l ls f fine))

-- ---- tables
closed_holds : (place : ℕ) (f : Facts) → IsFine f → Holds (closed_table place f)
closed_holds place f fine = holds_if (length f.columns == 0) _ (Ok f) tt fine

after_element_holds : (end : ℕ) (ls : List Lexed) (more : Facts → Outcome) → ((f : Facts) → IsFine f → Holds (more f)) → (f : Facts) → IsFine f
    → Holds (after_element end ls more f)
after_element_holds end [] more each f fine = tt
after_element_holds end (l ∷ ls) more each f fine = holds_if (is_mark 41 l) _ _ (closed_holds l.place f fine) (each f fine)

elements_hold : (d : Dialect) (end skip : ℕ) (ls : List Lexed) (f : Facts) → IsFine f → Holds (elements d end skip ls f)
unfolding elements
elements_hold d end skip [] f fine = tt
elements_hold d end (suc n) (l ∷ ls) f fine = elements_hold d end n ls f fine
elements_hold d end zero (l ∷ ls) f fine =
    then_fine _ _ (element_holds d _ (take (element_length (l ∷ ls)) (l ∷ ls)) f fine)
    (after_element_holds end (drop (element_length (l ∷ ls)) (l ∷ ls)) (elements d end (element_length (l ∷ ls)) ls)
    (elements_hold d end (element_length (l ∷ ls)) ls))

found_fine : (f : Facts) → IsFine f → IsFine (as_found f)
found_fine f fine = record { columns = fine.columns; keys = fine.keys }

open_holds : (d : Dialect) (end : ℕ) (ls : List Lexed) (f : Facts) → IsFine f → Holds (open_table d end ls f)
open_holds d end [] f fine = tt
open_holds d end (l ∷ ls) f fine = holds_if (is_mark 40 l) _ _ (elements_hold d end 0 ls f fine) tt

create_holds : (d : Dialect) (end : ℕ) (ls : List Lexed) (f : Facts) → IsFine f → Holds (create_table d end ls f)
create_holds d end ls f fine =
    holds_if f.found _ _ tt (open_holds d end (drop (name_length ls) ls) (as_found f) (found_fine f fine))

-- ---- the other statements
add_holds : (d : Dialect) (end : ℕ) (ls : List Lexed) (f : Facts) → IsFine f → Holds (add_key d end ls f)
add_holds d end [] f fine = fine
add_holds d end (l ∷ ls) f fine =
    holds_if (is_word (codes "constraint") l) _ _ (after_holds end ls (λ rest. key_constraint d end rest f) (λ rest. key_holds d end rest f fine))
    (key_holds d end (l ∷ ls) f fine)

add_to_holds : (d : Dialect) (end place : ℕ) (ls : List Lexed) (f : Facts) → IsFine f → Holds (add_to_table d end place ls f)
add_to_holds d end place [] f fine = fine
add_to_holds d end place (l ∷ ls) f fine =
    holds_if (not (is_word (codes "constraint") l || begins_constraint l ls)) _ _ tt
    (holds_if (list_any (is_word (codes "using")) (l ∷ ls)) _ _ fine (add_holds d end (l ∷ ls) f fine))

alter_holds : (d : Dialect) (end : ℕ) (ls : List Lexed) (f : Facts) → IsFine f → Holds (alter_table d end ls f)
alter_holds d end [] f fine = fine
alter_holds d end (l ∷ ls) f fine =
    holds_if (is_word (codes "add") l) _ _ (add_to_holds d end l.place ls f fine)
    (holds_if (is_one_of altering_words l) _ _ tt fine)

index_list_holds : (d : Dialect) (end place : ℕ) (ls : List Lexed) (f : Facts) → IsFine f → Holds (index_list d end place ls f)
index_list_holds d end place [] f fine = fine
index_list_holds d end place (l ∷ ls) f fine =
    holds_if (is_mark 40 l && are_columns 0 true ls) _ _
    (then_any (list_parts d end 0 true [] ls) (λ parts. state_key (index_kind ls) place parts f)
    (λ parts. state_holds (index_kind ls) place parts f fine)) fine

index_over_holds : (d : Dialect) (wanted : TableName) (end place : ℕ) (table : List Lexed) (f : Facts) → IsFine f
    → Holds (index_over d wanted end place table f)
index_over_holds d wanted end place table f fine =
    holds_if (is_meant d wanted table) _ _ (index_list_holds d end place (past_using (drop (name_length table) table)) f fine) fine

unique_index_holds : (d : Dialect) (wanted : TableName) (end place : ℕ) (ls : List Lexed) (f : Facts) → IsFine f
    → Holds (unique_index d wanted end place ls f)
unique_index_holds d wanted end place ls f fine =
    holds_if ((before_on ls == length ls) || list_any is_where ls) _ _ fine
    (index_over_holds d wanted end place (past_word (codes "only") (drop (before_on ls + 1) ls)) f fine)

index_statement_holds : (d : Dialect) (wanted : TableName) (end : ℕ) (ls : List Lexed) (f : Facts) → IsFine f
    → Holds (index_statement d wanted end ls f)
index_statement_holds d wanted end [] f fine = fine
index_statement_holds d wanted end (a ∷ []) f fine = fine
index_statement_holds d wanted end (a ∷ b ∷ []) f fine = fine
index_statement_holds d wanted end (a ∷ b ∷ c ∷ ls) f fine =
    holds_if ((is_word (codes "create") a && is_word (codes "unique") b) && is_word (codes "index") c) _ _
    (unique_index_holds d wanted end b.place ls f fine) fine

other_holds : (d : Dialect) (wanted : TableName) (end : ℕ) (ls : List Lexed) (rest : Option (List Lexed)) (f : Facts) → IsFine f
    → Holds (other_statement d wanted end ls rest f)
other_holds d wanted end ls None f fine = index_statement_holds d wanted end ls f fine
other_holds d wanted end ls (Some rest) f fine =
    holds_if (is_meant d wanted rest) _ _
    (alter_holds d end (drop (name_length rest) rest) f fine) fine

statement_holds : (d : Dialect) (wanted : TableName) (end : ℕ) (ls : List Lexed) (rest : Option (List Lexed)) (f : Facts) → IsFine f
    → Holds (statement_by d wanted end ls rest f)
statement_holds d wanted end ls None f fine = other_holds d wanted end ls (after_alter ls) f fine
statement_holds d wanted end ls (Some rest) f fine =
    holds_if (is_meant d wanted rest) _ _ (create_holds d end rest f fine) fine

lexemes_hold : (d : Dialect) (wanted : TableName) (end : ℕ) (ls : List Lexed) (f : Facts) → IsFine f → Holds (read_lexemes d wanted end ls f)
unfolding read_lexemes
lexemes_hold d wanted end ls f fine = statement_holds d wanted end ls (after_create ls) f fine

-- ---- the whole text
flawed_holds : (why : Flaw) (end : ℕ) (o : Outcome) → Holds (flawed why end o)
flawed_holds why end (Ok f) = tt
flawed_holds why end (Err refusal) = holds_if (nat_lt refusal.place end) (Err refusal) (refused (reason_of why) end) tt tt

ended_holds : (flaw : Option Flaw) (end : ℕ) (o : Outcome) → Holds o → Holds (ended flaw end o)
ended_holds None end o holds = holds
ended_holds (Some why) end o holds = flawed_holds why end o

statements_hold : (d : Dialect) (wanted : TableName) (ss : List Stated) (f : Facts) → IsFine f → Holds (read_statements d wanted ss f)
unfolding read_statements
statements_hold d wanted [] f fine = fine
statements_hold d wanted (s ∷ ss) f fine =
    then_fine (read_statement d wanted s f) (read_statements d wanted ss)
    (ended_holds s.flaw s.end (read_lexemes d wanted s.end s.lexemes f) (lexemes_hold d wanted s.end s.lexemes f fine))
    (statements_hold d wanted ss)

nothing_fine : IsFine no_facts
nothing_fine = record {
  columns = record {
    within_limit = omega arith;
    names = All-nil (λ c. IsName c.name);
    names_differ = λ i j default before low. absurd (omega (arith, low));
    types = All-nil (λ c. IsTrue (is_column_type c.kind));
  };
  keys = omega arith;
}

-- what is read is fine, and has a column
pub record IsRead (f : Facts) : Type 0 where
  pub fine : IsFine f
  pub some : 0 < length f.columns

abbrev Reads : Outcome → Type 0
Reads (Ok f) = IsRead f
Reads (Err refusal) = Unit {0}

there_reads : (f : Facts) → IsFine f → Reads (is_there f)
there_reads f fine = by_test (length f.columns == 0) refl
  where
    by_test : (b : Bool) → (length f.columns == 0) ≡ b → Reads (cond b (refused reason.NoSuchTable 0) (Ok f))
    by_test true none = tt
    by_test false any = record { fine = fine; some = grind (arith, nat_tests, any) }

then_there : (r : Outcome) → Holds r → Reads (then_read r is_there)
then_there (Ok f) fine = there_reads f fine
then_there (Err refusal) fine = tt

pub definition_reads : (d : Dialect) (wanted : TableName) (text : List ℕ) (f : Facts) → definition_of d wanted text ≡ Ok f → IsRead f
definition_reads d wanted text f same =
    subst Reads same (then_there (read_statements d wanted (statements_of d text) no_facts)
    (statements_hold d wanted (statements_of d text) no_facts nothing_fine))

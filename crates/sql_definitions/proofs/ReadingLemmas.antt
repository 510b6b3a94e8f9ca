-- One statement and one element at a time lead through a definition.
use Rattle.std.proofs.Common.{◌≡◌, ◌≤◌, ◌+◌, ℕ, zero, suc, true, false, Option, Some, None, Ok, Err, List, [], ◌∷◌, length, take, drop, arith, refl, ap, sym, ◌∙◌, ◌==◌}
use Rattle.std.proofs.lemmas.Bool.Decides.{nat_tests}
use Rattle.std.proofs.lemmas.List.{drop-drop, drop_all}
use Rattle.dep_model.specs.declared.failure.Failure.{Failure}
use Rattle.dep_model.specs.declared.failure.Failure.TheVariants.{Refused, OutOfMemory}
use Rattle.sql_definitions.specs.declared.refusal.Reason.TheVariants as reason
use Rattle.sql_lexemes.specs.declared.dialect.Dialect.{Dialect}
use Rattle.sql_lexemes.specs.declared.statement.Rest.{Rest}
use Rattle.sql_lexemes.specs.Lexemes.{Lexed}
use Rattle.sql_lexemes.specs.Statements.{FitsRest, Stated, statements_of, statements_in}
use Rattle.sql_definitions.specs.declared.refusal.Refusal.{Refusal}
use Rattle.sql_definitions.specs.Definitions.{definition_of, is_there, read_statement, read_statements}
use Rattle.sql_definitions.specs.Elements.{element}
use Rattle.sql_definitions.specs.Facts.{Facts, StatedColumn, Outcome, Fails, no_facts, refused, then_read}
use Rattle.sql_definitions.specs.Tables.{elements, element_length, after_element, closed_table, closes_table, place_of}
use Rattle.sql_definitions.specs.Wanted.{TableName}

-- how much is left, and one more
abbrev pub rest_size : Option Rest → ℕ
rest_size None = 0
rest_size (Some rest) = suc (length rest.text.now)

abbrev pub FitsWhole : ℕ → Option Rest → Type 0
FitsWhole size None = Unit {0}
FitsWhole size (Some rest) = rest.place + length rest.text.now ≤ size

-- what is left of a text, with the facts then known, comes to what the whole text comes to
pub record IsReading (d : Dialect) (wanted : TableName) (text : List ℕ) (rest : Option Rest) (f : Facts) : Type 0 where
  pub same : read_statements d wanted (statements_of d text) no_facts ≡ read_statements d wanted (statements_in d rest) f
  pub fits : FitsWhole (length text) rest

pub past_statement : (d : Dialect) (wanted : TableName) (all rest : List Stated) (s : Stated) (f g : Facts) → all ≡ s ∷ rest → read_statement d wanted s f ≡ Ok g
    → read_statements d wanted all f ≡ read_statements d wanted rest g
unfolding read_statements
past_statement d wanted all rest s f g is read = rw (is, read) refl

pub at_refusal : (d : Dialect) (wanted : TableName) (all rest : List Stated) (s : Stated) (f : Facts) (refusal : Refusal) → all ≡ s ∷ rest
    → read_statement d wanted s f ≡ Err refusal → read_statements d wanted all f ≡ Err refusal
unfolding read_statements
at_refusal d wanted all rest s f refusal is read = rw (is, read) refl

-- after some lexemes of an element the elements are those of what is left
pub skipped : (d : Dialect) (end n : ℕ) (ls : List Lexed) (f : Facts) → elements d end n ls f ≡ elements d end 0 (drop n ls) f
unfolding elements
skipped d end zero ls f = refl
skipped d end (suc n) [] f = refl
skipped d end (suc n) (l ∷ ls) f = skipped d end n ls f

-- the first element, and what follows it
pub first_element : (d : Dialect) (end : ℕ) (ls : List Lexed) (f : Facts) → 1 ≤ length ls
    → elements d end 0 ls f
    ≡ then_read (element d (place_of end (drop (element_length ls) ls)) (take (element_length ls) ls) f)
    (after_element end (drop (element_length ls) ls) (elements d end (element_length ls) (drop 1 ls)))
unfolding elements
first_element d end [] f h = absurd (omega arith)
first_element d end (l ∷ ls) f h = refl

-- the first element is read, and its facts are known to what follows
pub first_read : (d : Dialect) (end : ℕ) (ls own after : List Lexed) (n : ℕ) (f g : Facts) → 1 ≤ length ls → n ≡ element_length ls → own ≡ take n ls → after ≡ drop n ls
    → element d (place_of end after) own f ≡ Ok g → elements d end 0 ls f ≡ after_element end after (elements d end n (drop 1 ls)) g
first_read d end ls own after n f g h n_is own_is after_is read =
    first_element d end ls f h ∙ rw (← n_is, ← own_is, ← after_is, read) refl

-- the first element is refused
pub first_refused : (d : Dialect) (end : ℕ) (ls own after : List Lexed) (n : ℕ) (f : Facts) (failure : Failure Refusal) → 1 ≤ length ls → n ≡ element_length ls → own ≡ take n ls → after ≡ drop n ls
    → Fails failure (element d (place_of end after) own f) → Fails failure (elements d end 0 ls f)
first_refused d end ls own after n f (Refused refusal) h n_is own_is after_is read =
    first_element d end ls f h ∙ rw (← n_is, ← own_is, ← after_is, read) refl
first_refused d end ls own after n f OutOfMemory h n_is own_is after_is read = tt

-- the table is closed after an element, or it is not
pub table_closed : (end : ℕ) (after : List Lexed) (more : Facts → Outcome) (g : Facts) → closes_table after ≡ true
    → after_element end after more g ≡ closed_table (place_of end after) g
table_closed end [] more g closes = cc
table_closed end (l ∷ ls) more g closes = rw closes refl

pub table_goes_on : (end : ℕ) (after : List Lexed) (more : Facts → Outcome) (g : Facts) → 1 ≤ length after → closes_table after ≡ false
    → after_element end after more g ≡ more g
table_goes_on end [] more g h other = absurd (omega arith)
table_goes_on end (l ∷ ls) more g h other = rw other refl

pub table_open : (end : ℕ) (after : List Lexed) (more : Facts → Outcome) (g : Facts) → length after ≡ 0 → after_element end after more g ≡ refused reason.ExpectedCommaOrBracket end
table_open end [] more g e = refl
table_open end (l ∷ ls) more g e = absurd (omega arith)

-- what is left after an element and its comma
pub left_after : (d : Dialect) (end at n : ℕ) (all ls : List Lexed) (g : Facts) → ls ≡ drop at all → elements d end n (drop 1 ls) g ≡ elements d end 0 (drop (at + (n + 1)) all) g
left_after d end at n all ls g is =
    skipped d end n (drop 1 ls) g
    ∙ ap (λ t. elements d end 0 t g)
    (ap (λ t. drop n (drop 1 t)) is ∙ (ap (λ t. drop n t) (drop-drop 1 at all) ∙ (drop-drop n (at + 1) all ∙ ap (λ k. drop k all) (omega arith))))

of_none : (d : Dialect) (end : ℕ) (f : Facts) → elements d end 0 [] f ≡ refused reason.ExpectedName end
unfolding elements
of_none d end f = refl

pub no_more : (d : Dialect) (end at : ℕ) (all : List Lexed) (f : Facts) → length all ≤ at → elements d end 0 (drop at all) f ≡ refused reason.ExpectedName end
no_more d end at all f past = ap (λ ls. elements d end 0 ls f) (drop_all at all past) ∙ of_none d end f

pub is_none : (ls : List Lexed) → true ≡ (length ls == 0) → length ls ≡ 0
is_none ls e = grind (arith, nat_tests)

pub is_some : (ls : List Lexed) → false ≡ (length ls == 0) → 1 ≤ length ls
is_some ls e = grind (arith, nat_tests)

-- a text is read as far as it goes, and then some statement has created the table or not
pub all_read : (d : Dialect) (wanted : TableName) (text : List ℕ) (f : Facts) → IsReading d wanted text None f → definition_of d wanted text ≡ is_there f
unfolding read_statements
all_read d wanted text f reading = ap (λ (o : Outcome). then_read o is_there) reading.same

-- a statement is refused, and so is the text
pub text_refused : (d : Dialect) (wanted : TableName) (text : List ℕ) (left : Option Rest) (s : Stated) (rest : List Stated) (f : Facts) (failure : Failure Refusal)
    → IsReading d wanted text left f → statements_in d left ≡ s ∷ rest → Fails failure (read_statement d wanted s f) → Fails failure (definition_of d wanted text)
text_refused d wanted text left s rest f (Refused refusal) reading is read =
    ap (λ (o : Outcome). then_read o is_there) (reading.same ∙ at_refusal d wanted (statements_in d left) rest s f refusal is read)
text_refused d wanted text left s rest f OutOfMemory reading is read = tt

-- columns are none exactly where those that are the same are none
pub as_told : (told columns : List StatedColumn) → told ≡ columns → (length columns == 0) ≡ (length told == 0)
as_told told columns same = ap (λ (cs : List StatedColumn). length cs == 0) (sym same)

pub is_found : (f : Facts) → (length f.columns == 0) ≡ false → is_there f ≡ Ok f
is_found f e = rw e refl

pub is_missing : (f : Facts) → (length f.columns == 0) ≡ true → is_there f ≡ refused reason.NoSuchTable 0
is_missing f e = rw e refl

pub fits_on : (size place n : ℕ) (rest : Option Rest) → place + n ≤ size → FitsRest place n rest → FitsWhole size rest
fits_on size place n None h fits = tt
fits_on size place n (Some rest) h fits = let same = fits.0 in omega (arith, h, same)

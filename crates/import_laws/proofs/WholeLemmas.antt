-- The lexemes of the type of a column are words, numbers and marks of types.
use Rattle.std.proofs.Common.{◌≡◌, ◌≤◌, ◌+◌, ℕ, zero, suc, Bool, true, false, ◌&&◌, cond, IsTrue, List, [], ◌∷◌, length, take, refl, sym, subst, arith, one-add, Option, Some, None}
use Rattle.std.specs.Prelude.{◌==◌, decimal, nat_le, nat_lt}
use Rattle.std.specs.Char.{is_ascii_digit}
use Rattle.std.specs.List.{list_all, prefix_len}
use Rattle.std.proofs.lemmas.Bool.{and_from, and_parts}
use Rattle.std.proofs.lemmas.Bool.Decides.{nat_tests}
use Rattle.std.proofs.lemmas.Fmt.{decimal_digit}
use Rattle.schema_model.specs.Columns.{is_column_type}
use Rattle.schema_model.specs.Names.{is_type_byte}
use Rattle.schema_model.specs.declared.type_name.TheConstants.{MOST_TYPE_BYTES}
use Rattle.schema_model.specs.declared.column_type.ColumnType.{ColumnType}
use Rattle.schema_model.specs.declared.column_type.ColumnType.TheVariants as type
use Rattle.sql_lexemes.specs.Bytes.{begins_word, is_number_byte, is_word_byte}
use Rattle.sql_lexemes.specs.declared.lexeme.LexemeKind.{LexemeKind}
use Rattle.sql_lexemes.specs.declared.lexeme.LexemeKind.TheVariants as kind
use Rattle.sql_lexemes.specs.Lexemes.{Lexed}
use Rattle.ddl_pieces.specs.Pieces.{kind_in_type, led_by_kind, lexemes_from, more_in_type, pieces_in_type}
use Rattle.import_laws.specs.StatedTypes.{type_lexemes}
use Rattle.import_laws.proofs.AgainLemmas.{AreWhole, IsWhole, is_letter, is_type_mark}

-- ---- the front of a text
taken : (test other : ℕ → Bool) → ((b : ℕ) → is_type_byte b ≡ true → test b ≡ true → other b ≡ true)
    → (bytes : List ℕ) → list_all is_type_byte bytes ≡ true
    → list_all other (take (prefix_len test bytes) bytes) ≡ true
taken test other passes [] known = refl
taken test other passes (b ∷ bytes) known =
    let parts = and_parts (is_type_byte b) (list_all is_type_byte bytes) known in
    by_test parts.0 (taken test other passes bytes parts.1) (test b) refl
  where
    by_test : is_type_byte b ≡ true → list_all other (take (prefix_len test bytes) bytes) ≡ true
        → (t : Bool) → test b ≡ t → list_all other (take (prefix_len test (b ∷ bytes)) (b ∷ bytes)) ≡ true
    by_test one rest true is =
        rw is (rw one-add (and_from (other b) (list_all other (take (prefix_len test bytes) bytes))
        (passes b one is) rest))
    by_test one rest false is = rw is refl

letter_taken : (b : ℕ) → is_type_byte b ≡ true → is_word_byte b ≡ true → is_letter b ≡ true
letter_taken b known is = grind (arith, nat_tests, known, is)

letter_begins : (b : ℕ) → is_type_byte b ≡ true → begins_word b ≡ true → is_letter b ≡ true
letter_begins b known is = grind (arith, nat_tests, known, is)

mark_left : (b : ℕ) → is_type_byte b ≡ true → (b == 32) ≡ false → begins_word b ≡ false → is_ascii_digit b ≡ false
    → is_type_mark b ≡ true
mark_left b known blank word digit = grind (arith, nat_tests, known, blank, word, digit)

abbrev IsBegun : Option LexemeKind → List ℕ → Type 0
IsBegun None bytes = Unit {0}
IsBegun (Some kind) bytes = IsWhole kind bytes

abbrev kind_by : Bool → Bool → Bool → Option LexemeKind
kind_by blank word digit =
    cond blank None (cond word (Some kind.Word) (cond digit (Some kind.Number) (Some kind.Mark)))

begun : (b : ℕ) (bytes : List ℕ) → is_type_byte b ≡ true → list_all is_type_byte bytes ≡ true
    → IsBegun (kind_in_type b) (b ∷ take (more_in_type (kind_in_type b) bytes) bytes)
begun b bytes one known = by_tests (b == 32) (begins_word b) (is_ascii_digit b) refl refl refl
  where
    by_tests : (blank word digit : Bool) → (b == 32) ≡ blank → begins_word b ≡ word → is_ascii_digit b ≡ digit
        → IsBegun (kind_by blank word digit) (b ∷ take (more_in_type (kind_by blank word digit) bytes) bytes)
    by_tests true word digit is_blank is_word is_digit = tt
    by_tests false true digit is_blank is_word is_digit = (
      is_word,
      and_from (is_letter b) (list_all is_letter (take (prefix_len is_word_byte bytes) bytes))
          (letter_begins b one is_word) (taken is_word_byte is_letter letter_taken bytes known),
    )
    by_tests false false true is_blank is_word is_digit =
        (is_digit, taken is_number_byte is_number_byte (λ c type is. is) bytes known)
    by_tests false false false is_blank is_word is_digit = mark_left b one is_blank is_word is_digit

-- ---- the lexemes of a text
led_whole : (place depth : ℕ) (kind : Option LexemeKind) (bytes : List ℕ) (ls : ℕ → List Lexed)
    → IsBegun kind bytes → ((n : ℕ) → AreWhole (ls n)) → AreWhole (led_by_kind place depth kind bytes ls)
led_whole place depth None bytes ls is each = each depth
led_whole place depth (Some kind) bytes ls is each = (is, each _)

text_whole : (place depth skip : ℕ) (bytes : List ℕ) → list_all is_type_byte bytes ≡ true
    → AreWhole (lexemes_from place depth (pieces_in_type skip bytes))
unfolding lexemes_from pieces_in_type
text_whole place depth zero [] known = tt
text_whole place depth (suc n) [] known = tt
text_whole place depth (suc n) (b ∷ bytes) known =
    text_whole place depth n bytes (and_parts (is_type_byte b) (list_all is_type_byte bytes) known).1
text_whole place depth zero (b ∷ bytes) known =
    let more = more_in_type (kind_in_type b) bytes in
    let parts = and_parts (is_type_byte b) (list_all is_type_byte bytes) known in
    led_whole place depth (kind_in_type b) (b ∷ take more bytes)
    (λ n. lexemes_from (place + length (b ∷ take more bytes)) n (pieces_in_type more bytes))
    (begun b bytes parts.0 parts.1)
    (λ n. text_whole (place + length (b ∷ take more bytes)) n more bytes parts.1)

-- ---- types
digit_whole : (scale : ℕ) → scale ≤ 9 → IsWhole kind.Number (decimal scale)
digit_whole scale low =
    subst (IsWhole kind.Number) (sym (decimal_digit scale (omega (arith, low)))) (grind (arith, nat_tests, low), refl)

pub type_whole : (column : ColumnType) → IsTrue (is_column_type column) → AreWhole (type_lexemes column)
unfolding lexemes_from
type_whole type.Text is = ((refl, refl), tt)
type_whole type.Integer is = ((refl, refl), tt)
type_whole type.Date is = ((refl, refl), tt)
type_whole type.Timestamp is = ((refl, refl), tt)
type_whole type.Uuid is = ((refl, refl), tt)
type_whole (type.Decimal scale) is =
    ((refl, refl), (refl, ((refl, refl), (refl, (digit_whole scale (grind (arith, nat_tests, is)), (refl, tt))))))
type_whole (type.Other text) is =
    text_whole 0 1 0 text
    (and_parts (nat_lt 0 (length text) && nat_le (length text) MOST_TYPE_BYTES) (list_all is_type_byte text) is).1

-- A type in the form in which `import` writes types is read back as it is, and each type that is read has this form.
use Rattle.std.proofs.Common.{◌≡◌, ◌<◌, ◌+◌, ℕ, zero, suc, Bool, true, false, not, ◌&&◌, ◌||◌, cond, IsTrue, List, [], ◌∷◌, length, take, refl, sym, ap, ◌∙◌, Option, Some, None, subst, arith}
use Rattle.std.specs.Prelude.{◌==◌, bytes_eq, codes, nat_le, unwrap_or}
use Rattle.std.specs.Char.{is_ascii_digit}
use Rattle.std.specs.List.{list_all, list_any}
use Rattle.std.proofs.lemmas.Bool.{and_parts, true≢false}
use Rattle.std.proofs.lemmas.Bool.Decides.{nat_tests}
use Rattle.schema_model.specs.Columns.{is_column_type}
use Rattle.schema_model.specs.Names.{is_type_text}
use Rattle.schema_model.specs.declared.column_type.ColumnType.{ColumnType}
use Rattle.schema_model.specs.declared.column_type.ColumnType.TheVariants as type
use Rattle.sql_lexemes.specs.Bytes.{begins_word}
use Rattle.sql_lexemes.specs.declared.dialect.Dialect.{Dialect}
use Rattle.sql_lexemes.specs.declared.dialect.Dialect.TheVariants as dialect
use Rattle.sql_lexemes.specs.declared.lexeme.LexemeKind.{LexemeKind}
use Rattle.sql_lexemes.specs.declared.lexeme.LexemeKind.TheVariants as kind
use Rattle.sql_lexemes.specs.Lexemes.{Lexed}
use Rattle.sql_lexemes.specs.Pieces.{is_postgres}
use Rattle.sql_lexemes.specs.Statements.{is_mark}
use Rattle.sql_definitions.specs.Types.{column_type, decimal_type, has_quotes, integer_words, is_up_to, is_word_or_within, no_type, number_in, other_type, postgres_type, scaled, serial_words, stated_type, type_text, written}
use Rattle.ddl_pieces.specs.Pieces.{is_own_type, kind_in_type, led_by_kind, lexemes_from, more_in_type, pieces_in_type}
use Rattle.import_laws.specs.StatedTypes.{IsWrittenType, read_type, type_lexemes}
use Rattle.import_laws.proofs.AgainLemmas.{AreWhole}
use Rattle.import_laws.proofs.FormLemmas.{written_again}
use Rattle.import_laws.proofs.TypeLemmas.{type_read}
use Rattle.import_laws.proofs.WholeLemmas.{type_whole}

-- ---- no quotes
abbrev is_plain : Option LexemeKind → Bool
is_plain (Some kind.Quoted) = false
is_plain (Some kind.Text) = false
is_plain other = true

plain_in_type : (b : ℕ) → is_plain (kind_in_type b) ≡ true
plain_in_type b = by_tests (b == 32) (begins_word b) (is_ascii_digit b)
  where
    by_tests : (blank word digit : Bool)
        → is_plain (cond blank None (cond word (Some kind.Word) (cond digit (Some kind.Number) (Some kind.Mark))))
        ≡ true
    by_tests true word digit = refl
    by_tests false true digit = refl
    by_tests false false true = refl
    by_tests false false false = refl

led_unquoted : (place depth : ℕ) (begun : Option LexemeKind) (bytes : List ℕ) (ls : ℕ → List Lexed)
    → is_plain begun ≡ true → ((n : ℕ) → list_any has_quotes (ls n) ≡ false)
    → list_any has_quotes (led_by_kind place depth begun bytes ls) ≡ false
led_unquoted place depth None bytes ls plain each = each depth
led_unquoted place depth (Some kind.Word) bytes ls plain each = each _
led_unquoted place depth (Some kind.Number) bytes ls plain each = each _
led_unquoted place depth (Some kind.Mark) bytes ls plain each = each _
led_unquoted place depth (Some kind.Quoted) bytes ls plain each = absurd (true≢false (sym plain))
led_unquoted place depth (Some kind.Text) bytes ls plain each = absurd (true≢false (sym plain))

unquoted : (place depth skip : ℕ) (bytes : List ℕ)
    → list_any has_quotes (lexemes_from place depth (pieces_in_type skip bytes)) ≡ false
unfolding lexemes_from pieces_in_type
unquoted place depth zero [] = refl
unquoted place depth (suc n) [] = refl
unquoted place depth (suc n) (b ∷ bytes) = unquoted place depth n bytes
unquoted place depth zero (b ∷ bytes) =
    let more = more_in_type (kind_in_type b) bytes in
    led_unquoted place depth (kind_in_type b) (b ∷ take more bytes)
    (λ n. lexemes_from (place + length (b ∷ take more bytes)) n (pieces_in_type more bytes)) (plain_in_type b)
    (λ n. unquoted (place + length (b ∷ take more bytes)) n more bytes)

-- ---- one type or another
-- one with a word of its own, or this other one
module _ (other : ColumnType) where
  abbrev OwnOr : ColumnType → Type 0
  OwnOr column = is_own_type column ≡ false → column ≡ other

  own : (column : ColumnType) → is_own_type column ≡ true → OwnOr column
  own column is not_so = absurd (true≢false (sym is ∙ not_so))

  either : (b : Bool) (x y : ColumnType) → OwnOr x → OwnOr y → OwnOr (cond b x y)
  either true x y first second = first
  either false x y first second = second

  scale_or : (precision scale : Option ℕ) → OwnOr (unwrap_or (scaled precision scale) other)
  scale_or precision None = λ not_so. refl
  scale_or precision (Some scale) = by_test (is_up_to 15 precision && nat_le scale 9)
    where
      by_test : (b : Bool) → OwnOr (unwrap_or (cond b (Some (type.Decimal scale)) None) other)
      by_test true = own (type.Decimal scale) refl
      by_test false = λ not_so. refl

  decimal_or : (ls : List Lexed) → OwnOr (unwrap_or (decimal_type ls) other)
  decimal_or [] = λ not_so. refl
  decimal_or (a ∷ []) = λ not_so. refl
  decimal_or (a ∷ b ∷ []) = λ not_so. refl
  decimal_or (a ∷ b ∷ c ∷ []) = λ not_so. refl
  decimal_or (a ∷ b ∷ p ∷ e ∷ []) = scale_or (number_in p.kind p.text) (Some 0)
  decimal_or (a ∷ b ∷ c ∷ e ∷ f ∷ []) = λ not_so. refl
  decimal_or (a ∷ b ∷ p ∷ comma ∷ s ∷ f ∷ []) = by_test (is_mark 44 comma)
    where
      by_test : (t : Bool)
          → OwnOr (unwrap_or (cond t (scaled (number_in p.kind p.text) (number_in s.kind s.text)) None) other)
      by_test true = scale_or (number_in p.kind p.text) (number_in s.kind s.text)
      by_test false = λ not_so. refl
  decimal_or (a ∷ b ∷ c ∷ e ∷ f ∷ g ∷ h ∷ ls) = λ not_so. refl

-- lexemes state a type with a word of its own, or the one that is written
postgres_or : (text : List ℕ) (ls : List Lexed) → OwnOr (other_type ls) (postgres_type text ls)
postgres_or text ls =
    let other = other_type ls in
    either other (list_any (bytes_eq text) serial_words) type.Integer _ (own other type.Integer refl)
    (either other (bytes_eq text (codes "date")) type.Date _ (own other type.Date refl)
    (either other (bytes_eq text (codes "uuid")) type.Uuid _ (own other type.Uuid refl)
    (either other (bytes_eq text (codes "timestamp") || bytes_eq text (codes "timestamp without time zone"))
    type.Timestamp _ (own other type.Timestamp refl)
    (either other (bytes_eq text (codes "numeric") || bytes_eq text (codes "decimal"))
    (unwrap_or (decimal_type ls) other) other (decimal_or other ls) (λ not_so. refl)))))

type_or : (d : Dialect) (ls : List Lexed) → OwnOr (other_type ls) (stated_type d ls)
type_or d ls =
    let other = other_type ls in
    let text = type_text true ls in
    either other (list_all is_word_or_within ls) _ other
    (either other (bytes_eq text [] || bytes_eq text (codes "text")) type.Text _ (own other type.Text refl)
    (either other (list_any (bytes_eq text) integer_words) type.Integer _ (own other type.Integer refl)
    (either other (is_postgres d) (postgres_type text ls) other (postgres_or text ls) (λ not_so. refl))))
    (λ not_so. refl)

-- where lexemes stand for a type, they state it
with_lexemes : (d : Dialect) (l : Lexed) (ls : List Lexed) → column_type d (l ∷ ls) ≡ stated_type d (l ∷ ls)
with_lexemes d l ls =
    let more : 0 < length (l ∷ ls) = omega arith in
    let some : (length (l ∷ ls) == 0) ≡ false = grind (arith, nat_tests, more) in
    ap (λ (b : Bool). cond b (no_type d) (stated_type d (l ∷ ls))) some

-- a type that is written of lexemes has some
type_stated : (d : Dialect) (ls : List Lexed) (text : List ℕ) → written true ls ≡ text
    → IsTrue (is_column_type (type.Other text)) → column_type d ls ≡ stated_type d ls
unfolding written
type_stated d [] text same is =
    absurd (true≢false (sym (subst (λ (t : List ℕ). IsTrue (is_type_text t)) (sym same) is)))
type_stated d (l ∷ ls) text same is = with_lexemes d l ls

pub written_read : (d : Dialect) (text : List ℕ) → IsTrue (is_column_type (type.Other text))
    → IsWrittenType text → is_own_type (read_type d (type.Other text)) ≡ false
    → read_type d (type.Other text) ≡ type.Other text
written_read d text is same not_own =
    let ls = type_lexemes (type.Other text) in
    let stated = type_stated d ls text same is in
    stated ∙ type_or d ls (ap is_own_type (sym stated) ∙ not_own)
    ∙ ap (λ (t : List ℕ). cond (not (list_any has_quotes ls) && is_type_text t) (type.Other t) type.Text) same
    ∙ ap (λ (b : Bool). cond (not b && is_type_text text) (type.Other text) type.Text) (unquoted 0 1 0 text)
    ∙ ap (λ (b : Bool). cond b (type.Other text) type.Text) is

-- ---- what is read is written so
abbrev type_text_of : ColumnType → List ℕ
type_text_of (type.Other text) = text
type_text_of column = []

-- a type with a text of its own that lexemes state has the text that is written of them
other_written : (ls : List Lexed) (text : List ℕ) → other_type ls ≡ type.Other text
    → (written true ls ≡ text) × IsTrue (is_type_text text)
other_written ls text is =
    by_test (not (list_any has_quotes ls) && is_type_text (written true ls)) refl is
  where
    by_test : (b : Bool) → (not (list_any has_quotes ls) && is_type_text (written true ls)) ≡ b
        → cond b (type.Other (written true ls)) type.Text ≡ type.Other text
        → (written true ls ≡ text) × IsTrue (is_type_text text)
    by_test true passes same =
        let whole = and_parts (not (list_any has_quotes ls)) (is_type_text (written true ls)) passes in
        let text_same : written true ls ≡ text = ap type_text_of same in
        (text_same, subst (λ (t : List ℕ). IsTrue (is_type_text t)) text_same whole.1)
    by_test false passes same = absurd (true≢false (ap is_own_type same))

-- a column that states no type is read as one of a type that is written so
blob_written : IsWrittenType (codes "blob") × IsTrue (is_column_type (type.Other (codes "blob")))
unfolding lexemes_from pieces_in_type written
blob_written = (refl, refl)

lexemes_written : (d : Dialect) (ls : List Lexed) (text : List ℕ) → AreWhole ls → column_type d ls ≡ type.Other text
    → IsWrittenType text × IsTrue (is_column_type (type.Other text))
lexemes_written dialect.Postgres [] text whole stated = absurd (true≢false (ap is_own_type stated))
lexemes_written dialect.Sqlite [] text whole stated =
    subst (λ (t : List ℕ). IsWrittenType t × IsTrue (is_column_type (type.Other t))) (ap type_text_of stated)
    blob_written
lexemes_written d (l ∷ ls) text whole stated =
    let known : stated_type d (l ∷ ls) ≡ type.Other text = sym (with_lexemes d l ls) ∙ stated in
    let other : other_type (l ∷ ls) ≡ type.Other text = sym (type_or d (l ∷ ls) (ap is_own_type known)) ∙ known in
    let (same, fits) = other_written (l ∷ ls) text other in
    (subst IsWrittenType same (written_again (l ∷ ls) whole 0 1), fits)

pub read_again : (d : Dialect) (column : ColumnType) (text : List ℕ) → IsTrue (is_column_type column)
    → read_type d column ≡ type.Other text
    → IsWrittenType text × IsTrue (is_column_type (type.Other text))
read_again d column text is read =
    lexemes_written d (type_lexemes column) text (type_whole column is) (type_read d column is ∙ read)

-- The types of columns are read back: with what follows them they state a column, no key, and end no element.
use Rattle.std.proofs.Common.{◌≡◌, ◌≤◌, ◌+◌, ℕ, Bool, true, false, not, ◌&&◌, ◌||◌, cond, IsTrue, List, [], ◌∷◌, ◌++◌, take, drop, length, refl, sym, ap, ◌∙◌, zero, suc, subst, arith, Ok, append-nil}
use Rattle.std.specs.Prelude.{codes}
use Rattle.std.specs.List.{list_any}
use Rattle.std.proofs.lemmas.Bool.{and_from, and_parts, not-true, true≢false}
use Rattle.std.proofs.lemmas.Bool.Decides.{nat_tests}
use Rattle.std.proofs.lemmas.Fmt.{decimal_digit}
use Rattle.std.proofs.Math.Seq.{drop-append_seam, take-append_seam}
use Rattle.schema_model.specs.Columns.{is_column_type}
use Rattle.schema_model.specs.declared.column_type.ColumnType.{ColumnType}
use Rattle.schema_model.specs.declared.column_type.ColumnType.TheVariants as type
use Rattle.sql_lexemes.specs.declared.dialect.Dialect.{Dialect}
use Rattle.sql_lexemes.specs.declared.dialect.Dialect.TheVariants as dialect
use Rattle.sql_lexemes.specs.Lexemes.{Lexed}
use Rattle.sql_definitions.specs.Elements.{column_keys, column_of, ends_type, says_not_null, type_length}
use Rattle.sql_definitions.specs.Names.{lower_text}
use Rattle.sql_definitions.specs.Facts.{Facts, StatedColumn, StatedPart}
use Rattle.sql_definitions.specs.Types.{column_type, is_serial, type_text, written}
use Rattle.ddl_pieces.proofs.Cutting.{depth_append, depth_past}
use Rattle.ddl_pieces.proofs.Types.{own_sound, type_depth}
use Rattle.ddl_pieces.specs.Pieces.{TextPiece, blank, is_own_type, is_sound_type, lexemes_from, mark, not_null, number, type_pieces, word}
use Rattle.import_laws.specs.StatedTypes.{is_serial_type, read_type, states_a_type, stay_within, type_lexemes}
use Rattle.import_laws.proofs.PieceLemmas.{first_at, lexemes_append, none_at, place_after}
use Rattle.import_laws.proofs.UnplacedLemmas.{any_moved, lexemes_same, text_moved, type_moved}
use Rattle.import_laws.proofs.WithinLemmas.{within_append, within_moved}

-- what follows the type of a column, and what follows its name
abbrev null_pieces : Bool → List TextPiece
null_pieces nullable = cond nullable [] not_null

abbrev pub after_name : Bool → List TextPiece → List TextPiece
after_name nullable type = blank ∷ (type ++ cond nullable [] not_null)

abbrev pub column_lexemes : ℕ → Bool → List TextPiece → List Lexed
column_lexemes place nullable type = lexemes_from place 1 (after_name nullable type)

abbrev column_by : Dialect → List ℕ → List Lexed → StatedColumn
column_by d name lexemes = column_of d name (take (type_length lexemes) lexemes) (drop (type_length lexemes) lexemes)

-- the column of a name and a type
abbrev pub column_typed : Dialect → List ℕ → Bool → ColumnType → StatedColumn
column_typed d name nullable column = record {
  name = name;
  kind = read_type d column;
  never_missing = not (nullable && not (is_serial_type d column));
}

-- after a name they state no key, and a column of this type; and they stay within an element
abbrev pub ReadsLexemes : Dialect → Bool → ColumnType → List Lexed → Type 0
ReadsLexemes d nullable column lexemes =
    ((part : StatedPart) (f : Facts) → column_keys part (drop (type_length lexemes) lexemes) f ≡ Ok f)
    × ((name : List ℕ) → column_by d name lexemes ≡ column_typed d name nullable column)
    × (stay_within 0 lexemes ≡ true)

-- ---- types alone
-- a decimal type, by the text of its scale
abbrev decimal_pieces : List ℕ → List TextPiece
decimal_pieces text =
    word (codes "DECIMAL") ∷ mark 40 ∷ number (codes "15") ∷ mark 44 ∷ blank ∷ number text ∷ mark 41 ∷ []

abbrev decimal_read : Dialect → ℕ → List ℕ → ColumnType
decimal_read dialect.Postgres scale text = type.Decimal scale
decimal_read dialect.Sqlite scale text = type.Other (lower_text (codes "DECIMAL(15, " ++ text ++ codes ")"))

abbrev ReadsDecimal : Dialect → ℕ → List ℕ → Type 0
ReadsDecimal d scale text = column_type d (lexemes_from 0 1 (decimal_pieces text)) ≡ decimal_read d scale text

-- a digit is one of ten
by_digit : (P : ℕ → Type 0) → P 0 → P 1 → P 2 → P 3 → P 4 → P 5 → P 6 → P 7 → P 8 → P 9 → (n : ℕ) → n ≤ 9 → P n
by_digit P p0 p1 p2 p3 p4 p5 p6 p7 p8 p9 zero low = p0
by_digit P p0 p1 p2 p3 p4 p5 p6 p7 p8 p9 (suc zero) low = p1
by_digit P p0 p1 p2 p3 p4 p5 p6 p7 p8 p9 (suc (suc zero)) low = p2
by_digit P p0 p1 p2 p3 p4 p5 p6 p7 p8 p9 (suc (suc (suc zero))) low = p3
by_digit P p0 p1 p2 p3 p4 p5 p6 p7 p8 p9 (suc (suc (suc (suc zero)))) low = p4
by_digit P p0 p1 p2 p3 p4 p5 p6 p7 p8 p9 (suc (suc (suc (suc (suc zero))))) low = p5
by_digit P p0 p1 p2 p3 p4 p5 p6 p7 p8 p9 (suc (suc (suc (suc (suc (suc zero)))))) low = p6
by_digit P p0 p1 p2 p3 p4 p5 p6 p7 p8 p9 (suc (suc (suc (suc (suc (suc (suc zero))))))) low = p7
by_digit P p0 p1 p2 p3 p4 p5 p6 p7 p8 p9 (suc (suc (suc (suc (suc (suc (suc (suc zero)))))))) low = p8
by_digit P p0 p1 p2 p3 p4 p5 p6 p7 p8 p9 (suc (suc (suc (suc (suc (suc (suc (suc (suc zero))))))))) low = p9
by_digit P p0 p1 p2 p3 p4 p5 p6 p7 p8 p9
    (suc (suc (suc (suc (suc (suc (suc (suc (suc (suc n)))))))))) low = absurd (omega (arith, low))

digit_reads : (d : Dialect) (scale : ℕ) → scale ≤ 9 → ReadsDecimal d scale ((48 + scale) ∷ [])
unfolding lexemes_from type_text written
digit_reads dialect.Postgres scale low =
    by_digit (λ (n : ℕ). ReadsDecimal dialect.Postgres n ((48 + n) ∷ []))
    refl refl refl refl refl refl refl refl refl refl scale low
digit_reads dialect.Sqlite scale low =
    by_digit (λ (n : ℕ). ReadsDecimal dialect.Sqlite n ((48 + n) ∷ []))
    refl refl refl refl refl refl refl refl refl refl scale low

decimal_reads : (d : Dialect) (scale : ℕ) → scale ≤ 9
    → column_type d (type_lexemes (type.Decimal scale)) ≡ read_type d (type.Decimal scale)
decimal_reads dialect.Postgres scale low =
    subst (ReadsDecimal dialect.Postgres scale) (sym (decimal_digit scale (omega (arith, low))))
    (digit_reads dialect.Postgres scale low)
decimal_reads dialect.Sqlite scale low =
    subst (ReadsDecimal dialect.Sqlite scale) (sym (decimal_digit scale (omega (arith, low))))
    (digit_reads dialect.Sqlite scale low)

-- each type is read as its lexemes say
pub type_read : (d : Dialect) (column : ColumnType) → IsTrue (is_column_type column)
    → column_type d (type_lexemes column) ≡ read_type d column
unfolding lexemes_from type_text written
type_read dialect.Postgres type.Text is = refl
type_read dialect.Sqlite type.Text is = refl
type_read dialect.Postgres type.Integer is = refl
type_read dialect.Sqlite type.Integer is = refl
type_read dialect.Postgres type.Date is = refl
type_read dialect.Sqlite type.Date is = refl
type_read dialect.Postgres type.Timestamp is = refl
type_read dialect.Sqlite type.Timestamp is = refl
type_read dialect.Postgres type.Uuid is = refl
type_read dialect.Sqlite type.Uuid is = refl
type_read d (type.Decimal scale) is = decimal_reads d scale (grind (arith, nat_tests, is))
type_read d (type.Other text) is = refl

-- no lexeme of a type that a schema states by a word of its own ends it
abbrev goes_on : ColumnType → Bool
goes_on column = not (list_any ends_type (type_lexemes column)) && stay_within 0 (type_lexemes column)

own_goes_on : (column : ColumnType) → IsTrue (is_own_type column) → goes_on column ≡ true
unfolding lexemes_from stay_within
own_goes_on type.Text own = refl
own_goes_on type.Integer own = refl
own_goes_on type.Date own = refl
own_goes_on type.Timestamp own = refl
own_goes_on (type.Decimal scale) own = refl
own_goes_on type.Uuid own = refl
own_goes_on (type.Other text) own = absurd (true≢false (sym own))

-- its words are not those of a serial type
own_words : (d : Dialect) (column : ColumnType) → IsTrue (is_own_type column) → is_serial_type d column ≡ false
unfolding lexemes_from type_text
own_words dialect.Postgres type.Text own = refl
own_words dialect.Postgres type.Integer own = refl
own_words dialect.Postgres type.Date own = refl
own_words dialect.Postgres type.Timestamp own = refl
own_words dialect.Postgres (type.Decimal scale) own = refl
own_words dialect.Postgres type.Uuid own = refl
own_words dialect.Sqlite type.Text own = refl
own_words dialect.Sqlite type.Integer own = refl
own_words dialect.Sqlite type.Date own = refl
own_words dialect.Sqlite type.Timestamp own = refl
own_words dialect.Sqlite (type.Decimal scale) own = refl
own_words dialect.Sqlite type.Uuid own = refl
own_words d (type.Other text) own = absurd (true≢false (sym own))

pub own_stated : (d : Dialect) (column : ColumnType) → IsTrue (is_own_type column)
    → IsTrue (states_a_type d column) × (is_serial_type d column ≡ false)
own_stated d column own =
    let whole = and_from (is_sound_type d column) (goes_on column) (own_sound d column own) (own_goes_on column own) in
    (whole, own_words d column own)

-- a type that is stated is sound
pub stated_sound : (d : Dialect) (column : ColumnType) → IsTrue (states_a_type d column)
    → IsTrue (is_sound_type d column)
stated_sound d column stated =
    (and_parts (is_sound_type d column) (goes_on column) stated).0

-- ---- what follows a type
keys_after_type : (nullable : Bool) (place : ℕ) (part : StatedPart) (f : Facts)
    → column_keys part (lexemes_from place 1 (null_pieces nullable)) f ≡ Ok f
unfolding column_keys lexemes_from
keys_after_type true place part f = refl
keys_after_type false place part f = refl

null_said : (nullable : Bool) (place : ℕ)
    → says_not_null (lexemes_from place 1 (null_pieces nullable)) ≡ not nullable
unfolding lexemes_from says_not_null
null_said true place = refl
null_said false place = refl

null_inside : (nullable : Bool) (place : ℕ)
    → stay_within 0 (lexemes_from place 1 (null_pieces nullable)) ≡ true
unfolding lexemes_from stay_within
null_inside true place = refl
null_inside false place = refl

null_end : (nullable : Bool) → depth_past 1 (null_pieces nullable) ≡ 1
null_end true = refl
null_end false = refl

length_read : (nullable : Bool) (place : ℕ) (ls : List Lexed) → list_any ends_type ls ≡ false
    → type_length (ls ++ lexemes_from place 1 (null_pieces nullable)) ≡ length ls
unfolding lexemes_from
length_read true place ls none = ap type_length (append-nil ls) ∙ none_at ends_type ls none
length_read false place ls none = first_at ends_type ls _ _ none refl

-- ---- a type and what follows it
missing_or : (serial nullable : Bool) → (serial || not nullable) ≡ not (nullable && not serial)
missing_or true true = refl
missing_or true false = refl
missing_or false true = refl
missing_or false false = refl

module _ (d : Dialect) (nullable : Bool) (column : ColumnType) (stated : IsTrue (states_a_type d column))
    (is : IsTrue (is_column_type column)) where
  both : IsTrue (is_sound_type d column) × IsTrue (goes_on column)
  both = and_parts (is_sound_type d column) (goes_on column) stated

  on : IsTrue (not (list_any ends_type (type_lexemes column))) × IsTrue (stay_within 0 (type_lexemes column))
  on = and_parts (not (list_any ends_type (type_lexemes column))) (stay_within 0 (type_lexemes column)) both.1

  parts_read : (ls after : List Lexed) → type_length (ls ++ after) ≡ length ls
      → ((part : StatedPart) (f : Facts) → column_keys part after f ≡ Ok f)
      → ((name : List ℕ) → column_of d name ls after ≡ column_typed d name nullable column)
      → stay_within 0 ls ≡ true → stay_within 0 after ≡ true
      → ReadsLexemes d nullable column (ls ++ after)
  parts_read ls after size keys states inside outside = (
    λ part f. ap (λ (n : ℕ). column_keys part (drop n (ls ++ after)) f) size
        ∙ ap (λ (t : List Lexed). column_keys part t f) (drop-append_seam ls after) ∙ keys part f,
    λ name. ap (λ (n : ℕ). column_of d name (take n (ls ++ after)) (drop n (ls ++ after))) size
        ∙ ap (λ (t : List Lexed). column_of d name t (drop (length ls) (ls ++ after))) (take-append_seam ls after)
        ∙ ap (λ (t : List Lexed). column_of d name ls t) (drop-append_seam ls after) ∙ states name,
    within_append 0 ls after inside ∙ outside,
  )

  column_stated : (place later : ℕ) (name : List ℕ)
      → column_of d name (lexemes_from place 1 (type_pieces column)) (lexemes_from later 1 (null_pieces nullable))
      ≡ column_typed d name nullable column
  column_stated place later name =
      let same = lexemes_same place 0 1 (type_pieces column) in
      let ls = lexemes_from place 1 (type_pieces column) in
      let text : type_text true ls ≡ type_text true (type_lexemes column) =
      text_moved ls (type_lexemes column) same true in
      let kind : column_type d ls ≡ read_type d column =
      type_moved ls (type_lexemes column) same d ∙ type_read d column is in
      let missing : (is_serial d (type_text true ls) || says_not_null (lexemes_from later 1 (null_pieces nullable)))
      ≡ not (nullable && not (is_serial_type d column)) =
      ap (λ (t : List ℕ). is_serial d t || says_not_null (lexemes_from later 1 (null_pieces nullable))) text
      ∙ ap (λ (b : Bool). is_serial_type d column || b) (null_said nullable later)
      ∙ missing_or (is_serial_type d column) nullable in
      λ i. record {
        name = name;
        kind = kind i;
        never_missing = missing i;
      }

  pub type_reads : (place : ℕ) → ReadsLexemes d nullable column (column_lexemes place nullable (type_pieces column))
  unfolding lexemes_from
  type_reads place =
      let at = place + 1 in
      let ls = lexemes_from at 1 (type_pieces column) in
      let later = place_after at (type_pieces column) in
      let same = lexemes_same at 0 1 (type_pieces column) in
      let whole : lexemes_from at 1 (type_pieces column ++ null_pieces nullable)
      ≡ ls ++ lexemes_from later 1 (null_pieces nullable) =
      lexemes_append at 1 (type_pieces column) (null_pieces nullable)
      ∙ ap (λ (n : ℕ). ls ++ lexemes_from later n (null_pieces nullable)) (type_depth d column 1 both.0) in
      subst (ReadsLexemes d nullable column) (sym whole)
      (parts_read ls (lexemes_from later 1 (null_pieces nullable))
      (length_read nullable later ls (any_moved ls (type_lexemes column) same ends_type (λ l. refl) ∙ not-true _ on.0))
      (keys_after_type nullable later) (column_stated at later)
      (within_moved ls (type_lexemes column) same ∙ on.1) (null_inside nullable later))

  pub type_end : depth_past 1 (after_name nullable (type_pieces column)) ≡ 1
  type_end =
      depth_append 1 (type_pieces column) (null_pieces nullable)
      ∙ ap (λ (n : ℕ). depth_past n (null_pieces nullable)) (type_depth d column 1 both.0) ∙ null_end nullable

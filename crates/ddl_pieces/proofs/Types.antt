-- The pieces of the type of a column have its text, stand right, and close the brackets that they open.
use Rattle.std.proofs.Common.{◌≡◌, ◌+◌, ◌-◌, ◌<◌, ℕ, zero, suc, Bool, true, false, not, ◌&&◌, Some, None, Option, IsTrue, List, [], ◌∷◌, ◌++◌, length, take, drop, refl, sym, ap, subst, ◌∙◌, inl, inr, arith, one-add}
use Rattle.std.specs.Prelude.{◌==◌, codes, decimal, nat_le, nat_lt}
use Rattle.std.specs.Char.{is_ascii_digit}
use Rattle.std.specs.List.{list_all, prefix_len}
use Rattle.std.proofs.lemmas.Bool.{and_from, and_parts, cases_Bool, eqb-true, leb-true, ltb-true, not-true, true≢false}
use Rattle.std.proofs.lemmas.Bool.Decides.{nat_tests}
use Rattle.std.proofs.lemmas.Fmt.{decimal_digit}
use Rattle.std.proofs.lemmas.List.{take-append-drop}
use Rattle.schema_model.specs.Columns.{is_column_type}
use Rattle.schema_model.specs.Names.{is_type_byte}
use Rattle.schema_model.specs.declared.type_name.TheConstants.{MOST_TYPE_BYTES}
use Rattle.schema_model.specs.declared.column_type.ColumnType.{ColumnType}
use Rattle.schema_model.specs.declared.column_type.ColumnType.TheVariants as type
use Rattle.sql_lexemes.specs.Bytes.{begins_word, is_number_byte, is_word_byte}
use Rattle.sql_lexemes.specs.declared.dialect.Dialect.{Dialect}
use Rattle.sql_lexemes.specs.declared.lexeme.LexemeKind.{LexemeKind}
use Rattle.sql_lexemes.specs.declared.lexeme.LexemeKind.TheVariants as kind
use Rattle.ddl_pieces.specs.Pieces.{are_paired, blank, is_own_type, is_sound_type, is_unquoted, kind_in_type, mark, more_in_type, number, pieces_in_type, text_of, type_pieces}
use Rattle.ddl_pieces.proofs.Cutting.{AreRight, IsRight, depth_of, depth_past}
use Rattle.ddl_pieces.proofs.Fronts.{IsEmptyOrParting, closes, is_number_text, mark_right, number_front, number_right, opens, parts, run_right, stops_parted, word_front, word_right}

-- ---- the text of the pieces
pub rest_text : (skip : ℕ) (bytes : List ℕ) → text_of (pieces_in_type skip bytes) ≡ drop skip bytes
unfolding pieces_in_type
rest_text zero [] = refl
rest_text (suc n) [] = refl
rest_text (suc n) (b ∷ bytes) = rest_text n bytes
rest_text zero (b ∷ bytes) =
    let more = more_in_type (kind_in_type b) bytes in
    ap (λ (t : List ℕ). b ∷ (take more bytes ++ t)) (rest_text more bytes)
    ∙ ap (λ (t : List ℕ). b ∷ t) (take-append-drop more bytes)

-- ---- what a byte begins
abbrev Begins : ℕ → Option LexemeKind → Type 0
Begins b None = (b == 32) ≡ true
Begins b (Some kind.Word) = begins_word b ≡ true
Begins b (Some kind.Number) = is_ascii_digit b ≡ true
Begins b (Some kind.Mark) =
    ((b == 32) ≡ false) × (begins_word b ≡ false) × (is_ascii_digit b ≡ false)
Begins b (Some other) = ⊥

begins : (b : ℕ) → Begins b (kind_in_type b)
begins b = elim (cases_Bool (b == 32)) [
  | inl blank ↦ rw blank blank
  | inr other ↦ rw other (elim (cases_Bool (begins_word b)) [
    | inl word ↦ rw word word
    | inr neither ↦ rw neither (elim (cases_Bool (is_ascii_digit b)) [
      | inl digit ↦ rw digit digit
      | inr none ↦ rw none (other, neither, none)
    ])
  ])
]

-- ---- pieces stand right
front_right : (d : Dialect) (b : ℕ) (bytes rest after : List ℕ) (begun : Option LexemeKind)
    → Begins b begun
    → is_type_byte b ≡ true → is_unquoted d b ≡ true → IsEmptyOrParting rest
    → after ≡ drop (more_in_type begun bytes) bytes ++ rest
    → IsRight d begun (b ∷ take (more_in_type begun bytes) bytes) after
front_right d b bytes rest after None is known unquoted parted same = rw is refl
front_right d b bytes rest after (Some kind.Word) is known unquoted parted same =
    run_right d kind.Word is_word_byte b bytes rest after (word_front d b is) (λ text. refl)
    (stops_parted is_word_byte rest refl parted) same
front_right d b bytes rest after (Some kind.Number) is known unquoted parted same =
    run_right d kind.Number is_number_byte b bytes rest after (number_front d b is) (λ text. refl)
    (stops_parted is_number_byte rest refl parted) same
front_right d b bytes rest after (Some kind.Mark) is known unquoted parted same =
    mark_right d b after
    (record { known = known; unquoted = unquoted; blank = is.0; begins = is.1; digit = is.2 })
front_right d b bytes rest after (Some kind.Quoted) is known unquoted parted same = absurd is
front_right d b bytes rest after (Some kind.Text) is known unquoted parted same = absurd is

rest_right : (d : Dialect) (skip : ℕ) (bytes rest : List ℕ) → list_all is_type_byte bytes ≡ true
    → list_all (is_unquoted d) bytes ≡ true → IsEmptyOrParting rest
    → AreRight d (pieces_in_type skip bytes) rest
unfolding pieces_in_type
rest_right d skip [] rest known unquoted parted = tt
rest_right d (suc n) (b ∷ bytes) rest known unquoted parted =
    rest_right d n bytes rest
    (and_parts (is_type_byte b) (list_all is_type_byte bytes) known).1
    (and_parts (is_unquoted d b) (list_all (is_unquoted d) bytes) unquoted).1 parted
rest_right d zero (b ∷ bytes) rest known unquoted parted =
    let more = more_in_type (kind_in_type b) bytes in
    let type = and_parts (is_type_byte b) (list_all is_type_byte bytes) known in
    let plain = and_parts (is_unquoted d b) (list_all (is_unquoted d) bytes) unquoted in (
      front_right d b bytes rest (text_of (pieces_in_type more bytes) ++ rest) (kind_in_type b) (begins b)
          type.0 plain.0 parted (ap (λ (t : List ℕ). t ++ rest) (rest_text more bytes)),
      rest_right d more bytes rest type.1 plain.1 parted,
    )

-- ---- brackets
-- a byte is no round bracket
abbrev is_flat : ℕ → Bool
is_flat b = not (b == 40) && not (b == 41)

-- what passes one test passes another
all_taken : (test other : ℕ → Bool) → ((b : ℕ) → test b ≡ true → other b ≡ true) → (bytes : List ℕ)
    → list_all other (take (prefix_len test bytes) bytes) ≡ true
all_taken test other passes [] = refl
all_taken test other passes (b ∷ bytes) = elim (cases_Bool (test b)) [
  | inl is ↦
      rw is (rw one-add (and_from (other b) (list_all other (take (prefix_len test bytes) bytes))
      (passes b is) (all_taken test other passes bytes)))
  | inr not_so ↦ rw not_so refl
]

flat_word : (b : ℕ) → is_word_byte b ≡ true → is_flat b ≡ true
flat_word b is = grind (arith, nat_tests, is)

flat_number : (b : ℕ) → is_number_byte b ≡ true → is_flat b ≡ true
flat_number b is = grind (arith, nat_tests, is)

more_flat : (begun : Option LexemeKind) (bytes : List ℕ)
    → list_all is_flat (take (more_in_type begun bytes) bytes) ≡ true
more_flat None bytes = refl
more_flat (Some kind.Word) bytes = all_taken is_word_byte is_flat flat_word bytes
more_flat (Some kind.Number) bytes = all_taken is_number_byte is_flat flat_number bytes
more_flat (Some kind.Mark) bytes = refl
more_flat (Some kind.Quoted) bytes = refl
more_flat (Some kind.Text) bytes = refl

paired_flat : (depth b : ℕ) (bytes : List ℕ) → is_flat b ≡ true
    → are_paired depth (b ∷ bytes) ≡ are_paired depth bytes
paired_flat depth b bytes flat =
    let neither = and_parts (not (b == 40)) (not (b == 41)) flat in
    rw (not-true (b == 40) neither.0) (rw (not-true (b == 41) neither.1) refl)

-- brackets are paired after a byte too, which begins a piece, where so many of them are open
record ArePaired (n depth b : ℕ) (begun : Option LexemeKind) (taken bytes : List ℕ) : Type 0 where
  pub next : ℕ
  pub paired : are_paired next bytes ≡ true
  pub depth_after : depth_of (n + depth) begun (b ∷ taken) ≡ n + next

paired_on : (n depth b : ℕ) (begun : Option LexemeKind) (taken bytes : List ℕ) → is_flat b ≡ true
    → depth_of (n + depth) begun (b ∷ taken) ≡ n + depth → are_paired depth (b ∷ bytes) ≡ true
    → ArePaired n depth b begun taken bytes
paired_on n depth b begun taken bytes flat same paired =
    record { next = depth; paired = sym (paired_flat depth b bytes flat) ∙ paired; depth_after = same }

paired_open : (n depth : ℕ) (bytes : List ℕ) → are_paired depth (40 ∷ bytes) ≡ true
    → ArePaired n depth 40 (Some kind.Mark) [] bytes
paired_open n depth bytes paired = record { next = depth + 1; paired = paired; depth_after = omega arith }

paired_closed : (n depth : ℕ) (bytes : List ℕ) → are_paired depth (41 ∷ bytes) ≡ true
    → ArePaired n depth 41 (Some kind.Mark) [] bytes
paired_closed n depth bytes paired =
    let both = and_parts (nat_lt 0 depth) (are_paired (depth - 1) bytes) paired in
    let some = ltb-true 0 depth both.0 in
    record { next = depth - 1; paired = both.1; depth_after = omega (arith, some) }

paired_mark : (n depth b : ℕ) (bytes : List ℕ) → are_paired depth (b ∷ bytes) ≡ true
    → ArePaired n depth b (Some kind.Mark) [] bytes
paired_mark n depth b bytes paired = elim (cases_Bool (b == 40)) [
  | inl opens ↦
      let is = eqb-true b 40 opens in
      subst (λ (a : ℕ). ArePaired n depth a (Some kind.Mark) [] bytes) (sym is)
      (paired_open n depth bytes (subst (λ (a : ℕ). are_paired depth (a ∷ bytes) ≡ true) is paired))
  | inr other ↦ elim (cases_Bool (b == 41)) [
    | inl closes ↦
        let is = eqb-true b 41 closes in
        subst (λ (a : ℕ). ArePaired n depth a (Some kind.Mark) [] bytes) (sym is)
        (paired_closed n depth bytes (subst (λ (a : ℕ). are_paired depth (a ∷ bytes) ≡ true) is paired))
    | inr neither ↦
        paired_on n depth b (Some kind.Mark) [] bytes (rw other (rw neither refl)) (rw other (rw neither refl)) paired
  ]
]

front_paired : (n depth b : ℕ) (bytes : List ℕ) (begun : Option LexemeKind) → Begins b begun
    → are_paired depth (b ∷ bytes) ≡ true
    → ArePaired n depth b begun (take (more_in_type begun bytes) bytes) bytes
front_paired n depth b bytes None is paired =
    paired_on n depth b None [] bytes (grind (arith, nat_tests, is)) refl paired
front_paired n depth b bytes (Some kind.Word) is paired =
    paired_on n depth b (Some kind.Word) (take (prefix_len is_word_byte bytes) bytes) bytes
    (grind (arith, nat_tests, is)) refl paired
front_paired n depth b bytes (Some kind.Number) is paired =
    paired_on n depth b (Some kind.Number) (take (prefix_len is_number_byte bytes) bytes) bytes
    (grind (arith, nat_tests, is)) refl paired
front_paired n depth b bytes (Some kind.Mark) is paired = paired_mark n depth b bytes paired
front_paired n depth b bytes (Some kind.Quoted) is paired = absurd is
front_paired n depth b bytes (Some kind.Text) is paired = absurd is

rest_depth : (n depth skip : ℕ) (bytes : List ℕ) → are_paired depth bytes ≡ true
    → list_all is_flat (take skip bytes) ≡ true → depth_past (n + depth) (pieces_in_type skip bytes) ≡ n
unfolding pieces_in_type
rest_depth n depth skip [] paired flat = let none = eqb-true depth 0 paired in omega (arith, none)
rest_depth n depth (suc skip) (b ∷ bytes) paired flat =
    let both = and_parts (is_flat b) (list_all is_flat (take skip bytes)) flat in
    rest_depth n depth skip bytes (sym (paired_flat depth b bytes both.0) ∙ paired) both.1
rest_depth n depth zero (b ∷ bytes) paired flat =
    let more = more_in_type (kind_in_type b) bytes in
    let after = front_paired n depth b bytes (kind_in_type b) (begins b) paired in
    ap (λ (m : ℕ). depth_past m (pieces_in_type more bytes)) after.depth_after
    ∙ rest_depth n after.next more bytes after.paired (more_flat (kind_in_type b) bytes)

-- ---- types
-- a type is sound, and its scale or its text are within their limits
pub record IsSound (d : Dialect) (column : ColumnType) : Type 0 where
  pub sound : IsTrue (is_sound_type d column)
  pub valid : IsTrue (is_column_type column)

-- a type that a schema states by a word of its own is sound in each dialect
pub own_sound : (d : Dialect) (column : ColumnType) → IsTrue (is_own_type column)
    → IsTrue (is_sound_type d column)
own_sound d type.Text own = refl
own_sound d type.Integer own = refl
own_sound d type.Date own = refl
own_sound d type.Timestamp own = refl
own_sound d (type.Decimal scale) own = refl
own_sound d type.Uuid own = refl
own_sound d (type.Other text) own = absurd (true≢false (sym own))

scale_within : (scale : ℕ) → IsTrue (is_column_type (type.Decimal scale)) → scale < 10
scale_within scale valid = let within = leb-true scale 9 valid in omega (arith, within)

digit_is : (n : ℕ) → n < 10 → is_number_text ((48 + n) ∷ []) ≡ true
digit_is n within =
    let is : is_ascii_digit (48 + n) ≡ true = grind (arith, nat_tests, within) in rw is refl

scale_is : (scale : ℕ) → scale < 10 → is_number_text (decimal scale) ≡ true
scale_is scale within =
    subst (λ (bytes : List ℕ). is_number_text bytes ≡ true) (sym (decimal_digit scale within))
    (digit_is scale within)

-- what stands after DECIMAL
scale_right : (d : Dialect) (scale : ℕ) (rest : List ℕ) → is_number_text (decimal scale) ≡ true
    → AreRight d (mark 44 ∷ blank ∷ number (decimal scale) ∷ mark 41 ∷ []) rest
scale_right d scale rest is =
    (parts d _, (refl, (number_right d (decimal scale) _ is refl, (closes d rest, tt))))

pub type_right : (d : Dialect) (column : ColumnType) (rest : List ℕ) → IsSound d column → IsEmptyOrParting rest
    → AreRight d (type_pieces column) rest
type_right d type.Text rest is parted = (word_right d (codes "TEXT") rest refl parted, tt)
type_right d type.Integer rest is parted = (word_right d (codes "BIGINT") rest refl parted, tt)
type_right d type.Date rest is parted = (word_right d (codes "DATE") rest refl parted, tt)
type_right d type.Timestamp rest is parted = (word_right d (codes "TIMESTAMP") rest refl parted, tt)
type_right d (type.Decimal scale) rest is parted =
    let later = scale_right d scale rest (scale_is scale (scale_within scale is.valid)) in
    (word_right d (codes "DECIMAL") _ refl refl, (opens d _, (number_right d (codes "15") _ refl refl, later)))
type_right d type.Uuid rest is parted = (word_right d (codes "UUID") rest refl parted, tt)
type_right d (type.Other text) rest is parted =
    let known = and_parts (nat_lt 0 (length text) && nat_le (length text) MOST_TYPE_BYTES)
    (list_all is_type_byte text) is.valid in
    let sound = and_parts (are_paired 0 text) (list_all (is_unquoted d) text) is.sound in
    rest_right d 0 text rest known.1 sound.1 parted

pub type_depth : (d : Dialect) (column : ColumnType) (n : ℕ) → IsTrue (is_sound_type d column)
    → depth_past n (type_pieces column) ≡ n
type_depth d type.Text n sound = refl
type_depth d type.Integer n sound = refl
type_depth d type.Date n sound = refl
type_depth d type.Timestamp n sound = refl
type_depth d (type.Decimal scale) n sound = omega arith
type_depth d type.Uuid n sound = refl
type_depth d (type.Other text) n sound =
    let paired = and_parts (are_paired 0 text) (list_all (is_unquoted d) text) sound in
    let same : n ≡ n + 0 = omega arith in
    ap (λ (m : ℕ). depth_past m (pieces_in_type 0 text)) same ∙ rest_depth n 0 0 text paired.0 refl

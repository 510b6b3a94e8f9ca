-- A mark, a number or a word in a type that `import` writes is cut again as it is.
use Rattle.std.proofs.Common.{◌≡◌, ◌+◌, ℕ, inl, inr, Bool, true, false, not, ◌&&◌, ◌||◌, cond, List, [], ◌∷◌, ◌++◌, length, take, refl, sym, ap, subst, ◌∙◌, arith, Option, Some}
use Rattle.std.specs.Prelude.{◌==◌, codes}
use Rattle.std.specs.Char.{is_ascii_alphanumeric, is_ascii_digit, is_ascii_uppercase}
use Rattle.std.specs.List.{list_all, list_any, prefix_len}
use Rattle.std.proofs.Math.Seq.{take-append_seam}
use Rattle.std.proofs.lemmas.Bool.{and_from, and_parts, cases_Bool, eqb-true, true≢false}
use Rattle.std.proofs.lemmas.Bool.Decides.{nat_tests}
use Rattle.sql_lexemes.specs.Bytes.{begins_word, is_number_byte, is_word_byte}
use Rattle.sql_lexemes.specs.declared.lexeme.LexemeKind.{LexemeKind}
use Rattle.sql_lexemes.specs.declared.lexeme.LexemeKind.TheVariants as kind
use Rattle.sql_lexemes.specs.Lexemes.{Lexed}
use Rattle.sql_definitions.specs.Names.{lower, lower_text}
use Rattle.sql_definitions.specs.Types.{joins, written, written_lexeme}
use Rattle.ddl_pieces.proofs.Fronts.{prefix_past}
use Rattle.ddl_pieces.specs.Pieces.{TextPiece, kind_in_type, lexeme_at, lexemes_from, more_in_type, pieces_in_type}

-- ---- lexemes of types
abbrev pub is_letter : ℕ → Bool
is_letter b = is_ascii_alphanumeric b || (b == 95)

abbrev pub is_type_mark : ℕ → Bool
is_type_mark b = list_any (λ other. b == other) (codes "(),.[]")

-- the bytes of a word, of a number, and of a mark
abbrev pub IsWhole : LexemeKind → List ℕ → Type 0
IsWhole kind.Word (b ∷ bytes) = (begins_word b ≡ true) × (list_all is_letter (b ∷ bytes) ≡ true)
IsWhole kind.Number (b ∷ bytes) = (is_ascii_digit b ≡ true) × (list_all is_number_byte bytes ≡ true)
IsWhole kind.Mark (b ∷ []) = is_type_mark b ≡ true
IsWhole other bytes = ⊥

abbrev pub AreWhole : List Lexed → Type 0
AreWhole [] = Unit {0}
AreWhole (l ∷ ls) = IsWhole l.kind l.text × AreWhole ls

pub by_mark : (P : ℕ → Type 0) → P 40 → P 41 → P 44 → P 46 → P 91 → P 93 → (m : ℕ) → is_type_mark m ≡ true → P m
by_mark P opens closes comma dot left right m is = elim (cases_Bool (m == 40)) [
  | inl same ↦ subst P (sym (eqb-true m 40 same)) opens
  | inr a ↦ elim (cases_Bool (m == 41)) [
    | inl same ↦ subst P (sym (eqb-true m 41 same)) closes
    | inr b ↦ elim (cases_Bool (m == 44)) [
      | inl same ↦ subst P (sym (eqb-true m 44 same)) comma
      | inr c ↦ elim (cases_Bool (m == 46)) [
        | inl same ↦ subst P (sym (eqb-true m 46 same)) dot
        | inr e ↦ elim (cases_Bool (m == 91)) [
          | inl same ↦ subst P (sym (eqb-true m 91 same)) left
          | inr f ↦ elim (cases_Bool (m == 93)) [
            | inl same ↦ subst P (sym (eqb-true m 93 same)) right
            | inr g ↦ absurd (true≢false (sym is ∙ rw a (rw b (rw c (rw e (rw f (rw g refl)))))))
          ]
        ]
      ]
    ]
  ]
]

-- ---- cutting
abbrev pub cut : ℕ → ℕ → List ℕ → List Lexed
cut place depth text = lexemes_from place depth (pieces_in_type 0 text)

passed : (bytes rest : List ℕ) → pieces_in_type (length bytes) (bytes ++ rest) ≡ pieces_in_type 0 rest
unfolding pieces_in_type
passed [] rest = refl
passed (b ∷ bytes) rest = passed bytes rest

run_pieces : (b : ℕ) (kind : LexemeKind) (bytes rest : List ℕ) → kind_in_type b ≡ Some kind
    → more_in_type (Some kind) (bytes ++ rest) ≡ length bytes
    → pieces_in_type 0 (b ∷ (bytes ++ rest))
    ≡ record { kind = Some kind; bytes = b ∷ bytes } ∷ pieces_in_type 0 rest
unfolding pieces_in_type
run_pieces b kind bytes rest begun size =
    ap (λ (o : Option LexemeKind).
    record { kind = o; bytes = b ∷ take (more_in_type o (bytes ++ rest)) (bytes ++ rest) }
    ∷ pieces_in_type (more_in_type o (bytes ++ rest)) (bytes ++ rest)) begun
    ∙ ap (λ (n : ℕ). record { kind = Some kind; bytes = b ∷ take n (bytes ++ rest) }
    ∷ pieces_in_type n (bytes ++ rest)) size
    ∙ ap (λ (t : List ℕ). record { kind = Some kind; bytes = b ∷ t } ∷ pieces_in_type (length bytes) (bytes ++ rest))
    (take-append_seam bytes rest)
    ∙ ap (λ (ps : List TextPiece). record { kind = Some kind; bytes = b ∷ bytes } ∷ ps) (passed bytes rest)

-- a text of which the same is written again, after what joins or not, wherever it stands
abbrev pub IsSame : Bool → List ℕ → Type 0
IsSame joined text = (place depth : ℕ) → written joined (cut place depth text) ≡ text

pub blank_same : (text : List ℕ) (place depth : ℕ) (whole : List ℕ) → written false (cut (place + 1) depth text) ≡ whole
    → written false (cut place depth (32 ∷ text)) ≡ whole
unfolding lexemes_from pieces_in_type
blank_same text place depth whole is = is

abbrev pub joins_mark : ℕ → Bool
joins_mark m = joins (lexeme_at 0 0 kind.Mark (m ∷ []))

pub mark_same : (joined : Bool) (m : ℕ) (text : List ℕ) → is_type_mark m ≡ true → IsSame (joins_mark m) text
    → IsSame joined (m ∷ text)
unfolding lexemes_from pieces_in_type written
mark_same joined m text is =
    by_mark (λ (b : ℕ). IsSame (joins_mark b) text → IsSame joined (b ∷ text))
    (λ rest place depth. ap (λ (t : List ℕ). 40 ∷ t) (rest _ _))
    (λ rest place depth. ap (λ (t : List ℕ). 41 ∷ t) (rest _ _))
    (λ rest place depth. ap (λ (t : List ℕ). 44 ∷ t) (rest _ _))
    (λ rest place depth. ap (λ (t : List ℕ). 46 ∷ t) (rest _ _))
    (λ rest place depth. ap (λ (t : List ℕ). 91 ∷ t) (rest _ _))
    (λ rest place depth. ap (λ (t : List ℕ). 93 ∷ t) (rest _ _)) m is

digit_begins : (b : ℕ) → is_ascii_digit b ≡ true → kind_in_type b ≡ Some kind.Number
digit_begins b is =
    let blank : (b == 32) ≡ false = grind (arith, nat_tests, is) in
    let word : begins_word b ≡ false = grind (arith, nat_tests, is) in
    rw blank (rw word (rw is refl))

word_begins : (b : ℕ) → begins_word b ≡ true → kind_in_type b ≡ Some kind.Word
word_begins b is =
    let blank : (b == 32) ≡ false = grind (arith, nat_tests, is) in
    rw blank (rw is refl)

pub number_same : (joined : Bool) (b : ℕ) (bytes rest : List ℕ) → IsWhole kind.Number (b ∷ bytes)
    → prefix_len is_number_byte rest ≡ 0 → IsSame false rest → (place depth : ℕ)
    → written joined (cut place depth (b ∷ (bytes ++ rest))) ≡ written_lexeme joined kind.Number (b ∷ bytes) ++ rest
unfolding lexemes_from written
number_same joined b bytes rest is stops same place depth =
    ap (λ (ps : List TextPiece). written joined (lexemes_from place depth ps))
    (run_pieces b kind.Number bytes rest (digit_begins b is.0) (prefix_past is_number_byte bytes rest is.1 stops))
    ∙ ap (λ (t : List ℕ). written_lexeme joined kind.Number (b ∷ bytes) ++ t) (same _ _)

-- a word in lower case
abbrev pub is_small : ℕ → Bool
is_small b = is_letter b && not (is_ascii_uppercase b)

small_text : (bytes : List ℕ) → list_all is_small bytes ≡ true → lower_text bytes ≡ bytes
small_text [] all = refl
small_text (b ∷ bytes) all =
    let parts = and_parts (is_small b) (list_all is_small bytes) all in
    let same : lower b ≡ b = grind (arith, nat_tests, parts) in
    ap (λ (c : ℕ). c ∷ lower_text bytes) same ∙ ap (λ (t : List ℕ). b ∷ t) (small_text bytes parts.1)

pub all_pass : (test other : ℕ → Bool) → ((b : ℕ) → test b ≡ true → other b ≡ true) → (bytes : List ℕ)
    → list_all test bytes ≡ true → list_all other bytes ≡ true
all_pass test other passes [] all = refl
all_pass test other passes (b ∷ bytes) all =
    let parts = and_parts (test b) (list_all test bytes) all in
    and_from (other b) (list_all other bytes) (passes b parts.0) (all_pass test other passes bytes parts.1)

pub small_word : (b : ℕ) → is_small b ≡ true → is_word_byte b ≡ true
small_word b is = grind (arith, nat_tests, is)

pub small_number : (b : ℕ) → is_small b ≡ true → is_number_byte b ≡ true
small_number b is = grind (arith, nat_tests, is)

pub word_same : (joined : Bool) (b : ℕ) (bytes rest : List ℕ) → begins_word b ≡ true
    → list_all is_small (b ∷ bytes) ≡ true
    → prefix_len is_word_byte rest ≡ 0 → IsSame false rest → (place depth : ℕ)
    → written joined (cut place depth (b ∷ (bytes ++ rest))) ≡ cond joined (b ∷ bytes) (32 ∷ b ∷ bytes) ++ rest
unfolding lexemes_from written
word_same joined b bytes rest is small stops same place depth =
    let later = (and_parts (is_small b) (list_all is_small bytes) small).1 in
    ap (λ (ps : List TextPiece). written joined (lexemes_from place depth ps))
    (run_pieces b kind.Word bytes rest (word_begins b is)
    (prefix_past is_word_byte bytes rest (all_pass is_small is_word_byte small_word bytes later) stops))
    ∙ ap (λ (t : List ℕ). written_lexeme joined kind.Word (b ∷ bytes) ++ t) (same _ _)
    ∙ ap (λ (t : List ℕ). cond joined t (32 ∷ t) ++ rest) (small_text (b ∷ bytes) small)

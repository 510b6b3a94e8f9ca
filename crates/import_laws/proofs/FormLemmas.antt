-- What `import` writes of the lexemes of a type is cut into lexemes of which it writes the same again.
use Rattle.std.proofs.Common.{◌≡◌, ◌+◌, ℕ, inl, inr, Bool, true, false, List, [], ◌∷◌, ◌++◌, refl, sym, ap, ◌∙◌, arith, append_assoc}
use Rattle.std.specs.Char.{is_ascii_digit, is_ascii_uppercase}
use Rattle.std.specs.List.{list_all, prefix_len}
use Rattle.std.proofs.lemmas.Bool.{and_from, and_parts, cases_Bool}
use Rattle.std.proofs.lemmas.Bool.Decides.{nat_tests}
use Rattle.std.proofs.lemmas.List.Folds.{list_all-append}
use Rattle.sql_lexemes.specs.Bytes.{begins_word, is_number_byte, is_word_byte}
use Rattle.sql_lexemes.specs.declared.lexeme.LexemeKind.{LexemeKind}
use Rattle.sql_lexemes.specs.declared.lexeme.LexemeKind.TheVariants as kind
use Rattle.sql_lexemes.specs.Lexemes.{Lexed}
use Rattle.sql_definitions.specs.Names.{lower, lower_text}
use Rattle.sql_definitions.specs.Types.{written, written_lexeme}
use Rattle.ddl_pieces.specs.Pieces.{lexemes_from, pieces_in_type}
use Rattle.import_laws.proofs.AgainLemmas.{AreWhole, IsSame, IsWhole, all_pass, blank_same, by_mark, cut, is_letter, is_small, is_type_mark, joins_mark, mark_same, number_same, small_number, word_same}

-- what is written after a number is cut so that the same is written again, even where the number goes on with it
abbrev AfterNumber : Bool → ℕ → List ℕ → List ℕ → Type 0
AfterNumber first b bytes text =
    (place depth : ℕ) → written first (cut place depth (b ∷ (bytes ++ text)))
    ≡ written_lexeme first kind.Number (b ∷ bytes) ++ text

-- what is written of lexemes is cut so that the same is written again, alone and after a number; and no word goes on
-- with it
record IsWrittenAgain (ls : List Lexed) : Type 0 where
  pub alone : (joined : Bool) → IsSame joined (written joined ls)
  pub later : (joined first : Bool) (b : ℕ) (bytes : List ℕ) → IsWhole kind.Number (b ∷ bytes)
      → AfterNumber first b bytes (written joined ls)
  pub stops : prefix_len is_word_byte (written false ls) ≡ 0

goes_on : (first : Bool) (b : ℕ) (bytes more text : List ℕ) → AfterNumber first b (bytes ++ more) text
    → AfterNumber first b bytes (more ++ text)
goes_on first b bytes more text after place depth =
    ap (λ (t : List ℕ). written first (cut place depth (b ∷ t))) (sym (append_assoc bytes more text))
    ∙ after place depth ∙ regrouped first
  where
    regrouped : (c : Bool) → written_lexeme c kind.Number (b ∷ (bytes ++ more)) ++ text
        ≡ written_lexeme c kind.Number (b ∷ bytes) ++ (more ++ text)
    regrouped true = ap (λ (t : List ℕ). b ∷ t) (append_assoc bytes more text)
    regrouped false = ap (λ (t : List ℕ). 32 ∷ b ∷ t) (append_assoc bytes more text)

longer : (b : ℕ) (bytes more : List ℕ) → IsWhole kind.Number (b ∷ bytes) → list_all is_number_byte more ≡ true
    → IsWhole kind.Number (b ∷ (bytes ++ more))
longer b bytes more is all = (
  is.0,
  list_all-append is_number_byte bytes more
      ∙ and_from (list_all is_number_byte bytes) (list_all is_number_byte more) is.1 all,
)

-- ---- marks
mark_stops : (m : ℕ) (text : List ℕ) → is_type_mark m ≡ true → prefix_len is_word_byte (m ∷ text) ≡ 0
mark_stops m text is = by_mark (λ (b : ℕ). prefix_len is_word_byte (b ∷ text) ≡ 0) refl refl refl refl refl refl m is

mark_later : (m : ℕ) (ls : List Lexed) → is_type_mark m ≡ true → IsWrittenAgain ls
    → (first : Bool) (b : ℕ) (bytes : List ℕ) → IsWhole kind.Number (b ∷ bytes)
    → AfterNumber first b bytes (m ∷ written (joins_mark m) ls)
mark_later m ls is again first b bytes number =
    by_mark (λ (c : ℕ). AfterNumber first b bytes (c ∷ written (joins_mark c) ls))
    (stopped 40 refl refl) (stopped 41 refl refl) (stopped 44 refl refl)
    (goes_on first b bytes (46 ∷ []) (written true ls)
    (again.later true first b (bytes ++ 46 ∷ []) (longer b bytes (46 ∷ []) number refl)))
    (stopped 91 refl refl) (stopped 93 refl refl) m is
  where
    stopped : (c : ℕ) → is_type_mark c ≡ true
        → prefix_len is_number_byte (c ∷ written (joins_mark c) ls) ≡ 0
        → AfterNumber first b bytes (c ∷ written (joins_mark c) ls)
    stopped c mark stops =
        number_same first b bytes (c ∷ written (joins_mark c) ls) number stops
        (mark_same false c (written (joins_mark c) ls) mark (again.alone (joins_mark c)))

mark_again : (place depth m : ℕ) (ls : List Lexed) → is_type_mark m ≡ true → IsWrittenAgain ls
    → IsWrittenAgain (record { kind = kind.Mark; place = place; depth = depth; text = m ∷ [] } ∷ ls)
unfolding written
mark_again place depth m ls is again = record {
  alone = λ joined. mark_same joined m (written (joins_mark m) ls) is (again.alone (joins_mark m));
  later = λ joined. mark_later m ls is again;
  stops = mark_stops m (written (joins_mark m) ls) is;
}

-- ---- numbers
number_alone : (b : ℕ) (bytes : List ℕ) (ls : List Lexed) → IsWhole kind.Number (b ∷ bytes) → IsWrittenAgain ls
    → (joined : Bool) → IsSame joined (written_lexeme joined kind.Number (b ∷ bytes) ++ written false ls)
number_alone b bytes ls is again true place depth = again.later false true b bytes is place depth
number_alone b bytes ls is again false place depth =
    blank_same (b ∷ (bytes ++ written false ls)) place depth _ (again.later false false b bytes is (place + 1) depth)

digit_in_number : (b : ℕ) → is_ascii_digit b ≡ true → is_number_byte b ≡ true
digit_in_number b is = grind (arith, nat_tests, is)

number_again : (place depth c : ℕ) (more : List ℕ) (ls : List Lexed) → IsWhole kind.Number (c ∷ more)
    → IsWrittenAgain ls
    → IsWrittenAgain (record { kind = kind.Number; place = place; depth = depth; text = c ∷ more } ∷ ls)
unfolding written
number_again place depth c more ls is again = record {
  alone = number_alone c more ls is again;
  later = by_joined;
  stops = refl;
}
  where
    by_joined : (joined first : Bool) (b : ℕ) (bytes : List ℕ) → IsWhole kind.Number (b ∷ bytes)
        → AfterNumber first b bytes (written_lexeme joined kind.Number (c ∷ more) ++ written false ls)
    by_joined true first b bytes number =
        let all = and_from (is_number_byte c) (list_all is_number_byte more) (digit_in_number c is.0) is.1 in
        goes_on first b bytes (c ∷ more) (written false ls)
        (again.later false first b (bytes ++ c ∷ more) (longer b bytes (c ∷ more) number all))
    by_joined false first b bytes number =
        number_same first b bytes (32 ∷ c ∷ (more ++ written false ls)) number refl
        (number_alone c more ls is again false)

-- ---- words
lower_small : (bytes : List ℕ) → list_all is_letter bytes ≡ true → list_all is_small (lower_text bytes) ≡ true
lower_small [] all = refl
lower_small (b ∷ bytes) all =
    let parts = and_parts (is_letter b) (list_all is_letter bytes) all in
    and_from (is_small (lower b)) (list_all is_small (lower_text bytes)) (one parts.0) (lower_small bytes parts.1)
  where
    one : is_letter b ≡ true → is_small (lower b) ≡ true
    one is = elim (cases_Bool (is_ascii_uppercase b)) [
      | inl upper ↦ rw upper (grind (arith, nat_tests, is, upper))
      | inr small ↦ rw small (grind (arith, nat_tests, is, small))
    ]

lower_begins : (b : ℕ) → begins_word b ≡ true → begins_word (lower b) ≡ true
lower_begins b is = elim (cases_Bool (is_ascii_uppercase b)) [
  | inl upper ↦ rw upper (grind (arith, nat_tests, is, upper))
  | inr small ↦ rw small is
]

word_alone : (c : ℕ) (more : List ℕ) (ls : List Lexed) → IsWhole kind.Word (c ∷ more) → IsWrittenAgain ls
    → (joined : Bool) → IsSame joined (written_lexeme joined kind.Word (c ∷ more) ++ written false ls)
word_alone c more ls is again true place depth =
    word_same true (lower c) (lower_text more) (written false ls) (lower_begins c is.0) (lower_small (c ∷ more) is.1)
    again.stops (again.alone false) place depth
word_alone c more ls is again false place depth =
    blank_same (lower c ∷ (lower_text more ++ written false ls)) place depth _
    (word_same false (lower c) (lower_text more) (written false ls) (lower_begins c is.0)
    (lower_small (c ∷ more) is.1) again.stops (again.alone false) (place + 1) depth)

word_again : (place depth c : ℕ) (more : List ℕ) (ls : List Lexed) → IsWhole kind.Word (c ∷ more)
    → IsWrittenAgain ls
    → IsWrittenAgain (record { kind = kind.Word; place = place; depth = depth; text = c ∷ more } ∷ ls)
unfolding written
word_again place depth c more ls is again = record {
  alone = word_alone c more ls is again;
  later = by_joined;
  stops = refl;
}
  where
    by_joined : (joined first : Bool) (b : ℕ) (bytes : List ℕ) → IsWhole kind.Number (b ∷ bytes)
        → AfterNumber first b bytes (written_lexeme joined kind.Word (c ∷ more) ++ written false ls)
    by_joined true first b bytes number =
        let text = lower_text (c ∷ more) in
        let all = all_pass is_small is_number_byte small_number text (lower_small (c ∷ more) is.1) in
        goes_on first b bytes text (written false ls)
        (again.later false first b (bytes ++ text) (longer b bytes text number all))
    by_joined false first b bytes number =
        number_same first b bytes (32 ∷ (lower_text (c ∷ more) ++ written false ls)) number refl
        (word_alone c more ls is again false)

-- ---- lexemes
none_again : IsWrittenAgain []
unfolding lexemes_from pieces_in_type written
none_again = record {
  alone = λ joined place depth. refl;
  later = λ joined first b bytes number. number_same first b bytes [] number refl (λ place depth. refl);
  stops = refl;
}

one_again : (kind : LexemeKind) (place depth : ℕ) (text : List ℕ) (ls : List Lexed) → IsWhole kind text
    → IsWrittenAgain ls → IsWrittenAgain (record { kind = kind; place = place; depth = depth; text = text } ∷ ls)
one_again kind.Word place depth [] ls is again = absurd is
one_again kind.Word place depth (c ∷ more) ls is again = word_again place depth c more ls is again
one_again kind.Number place depth [] ls is again = absurd is
one_again kind.Number place depth (c ∷ more) ls is again = number_again place depth c more ls is again
one_again kind.Mark place depth [] ls is again = absurd is
one_again kind.Mark place depth (m ∷ []) ls is again = mark_again place depth m ls is again
one_again kind.Mark place depth (m ∷ c ∷ more) ls is again = absurd is
one_again kind.Quoted place depth text ls is again = absurd is
one_again kind.Text place depth text ls is again = absurd is

again : (ls : List Lexed) → AreWhole ls → IsWrittenAgain ls
again [] are = none_again
again (l ∷ ls) are = one_again l.kind l.place l.depth l.text ls are.0 (again ls are.1)

pub written_again : (ls : List Lexed) → AreWhole ls → IsSame true (written true ls)
written_again ls are = (again ls are).alone true

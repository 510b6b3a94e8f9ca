-- Words, numbers, quoted names and marks stand right before a byte that parts lexemes.
use Rattle.std.proofs.Common.{◌≡◌, ◌+◌, ℕ, Bool, true, false, cond, not, ◌&&◌, Some, List, [], ◌∷◌, ◌++◌, length, take, drop, bytes_eq, refl, sym, ap, subst, ◌∙◌, ⊎_elim, arith, append_assoc, length-append}
use Rattle.std.specs.Prelude.{◌==◌, codes}
use Rattle.std.specs.Char.{is_ascii_digit}
use Rattle.std.specs.List.{list_all, list_any, prefix_len}
use Rattle.std.proofs.lemmas.Bool.{and_parts, eqb-true, not-true, or_cases, true≢false}
use Rattle.std.proofs.lemmas.Bool.Decides.{nat_tests}
use Rattle.std.proofs.lemmas.List.{take-append-drop}
use Rattle.std.proofs.lemmas.List.Folds.{length-prefix_len}
use Rattle.schema_model.specs.Names.{is_type_byte, quotes_doubled}
use Rattle.sql_syntax.specs.Names.{quoted_name}
use Rattle.sql_lexemes.specs.Bytes.{begins_word, is_blank, is_number_byte, is_strange, is_word_byte}
use Rattle.sql_lexemes.specs.Ends.{quote_end}
use Rattle.sql_lexemes.specs.Pieces.{closed_or_open, front_piece, is_sqlite}
use Rattle.sql_lexemes.specs.Statements.{is_a_mark}
use Rattle.sql_lexemes.specs.declared.dialect.Dialect.{Dialect}
use Rattle.sql_lexemes.specs.declared.lexeme.LexemeKind.{LexemeKind}
use Rattle.sql_lexemes.specs.declared.lexeme.LexemeKind.TheVariants as kind
use Rattle.sql_lexemes.specs.declared.piece.Before.{Before}
use Rattle.sql_lexemes.specs.declared.piece.Piece.TheVariants as piece
use Rattle.sql_lexemes.specs.declared.scan.Within.TheVariants.{Inside, AfterQuote}
use Rattle.ddl_pieces.specs.Pieces.{TextPiece, blank, is_unquoted, quoted_name_piece, text_of, word}
use Rattle.ddl_pieces.proofs.Cutting.{AreRight, IsLexemeBefore}

-- ---- bytes that part lexemes
-- a blank, a line feed, a bracket, a comma or a semicolon
abbrev parting : List ℕ
parting = codes " \n(),;"

abbrev parts_lexemes : ℕ → Bool
parts_lexemes b = list_any (λ other. b == other) parting

-- a text is at its end or begins with such a byte
abbrev pub IsEmptyOrParting : List ℕ → Type 0
IsEmptyOrParting [] = Unit {0}
IsEmptyOrParting (b ∷ bs) = parts_lexemes b ≡ true

fails_among : (test : ℕ → Bool) (b : ℕ) (bytes : List ℕ)
    → list_all (λ other. not (test other)) bytes ≡ true
    → list_any (λ other. b == other) bytes ≡ true → test b ≡ false
fails_among test b [] fail among = absurd (true≢false (sym among))
fails_among test b (other ∷ bytes) fail among =
    let parts = and_parts (not (test other)) (list_all (λ a. not (test a)) bytes) fail in
    ⊎_elim
    (λ (is : (b == other) ≡ true).
    subst (λ (a : ℕ). test a ≡ false) (sym (eqb-true b other is)) (not-true (test other) parts.0))
    (λ later. fails_among test b bytes parts.1 later)
    (or_cases (b == other) (list_any (λ a. b == a) bytes) among)

pub stops_parted : (test : ℕ → Bool) (rest : List ℕ)
    → list_all (λ other. not (test other)) parting ≡ true
    → IsEmptyOrParting rest → prefix_len test rest ≡ 0
stops_parted test [] fail parted = refl
stops_parted test (b ∷ rest) fail parted =
    ap (λ (t : Bool). cond t (1 + prefix_len test rest) 0) (fails_among test b parting fail parted)

-- ---- the longest front that passes a test
prefix_stops : (test : ℕ → Bool) (bytes rest : List ℕ) → prefix_len test rest ≡ 0
    → prefix_len test (bytes ++ rest) ≡ prefix_len test bytes
prefix_stops test [] rest stops = stops
prefix_stops test (b ∷ bytes) rest stops =
    ap (λ (n : ℕ). cond (test b) (1 + n) 0) (prefix_stops test bytes rest stops)

pub prefix_past : (test : ℕ → Bool) (bytes rest : List ℕ) → list_all test bytes ≡ true
    → prefix_len test rest ≡ 0 → prefix_len test (bytes ++ rest) ≡ length bytes
prefix_past test [] rest all stops = stops
prefix_past test (b ∷ bytes) rest all stops =
    let parts = and_parts (test b) (list_all test bytes) all in
    let later = prefix_past test bytes rest parts.1 stops in
    ap (λ (t : Bool). cond t (1 + prefix_len test (bytes ++ rest)) 0) parts.0 ∙ omega (arith, later)

-- a byte with the longest front of what follows it is a lexeme, whatever stands before it
abbrev pub Fronts : Dialect → LexemeKind → (ℕ → Bool) → ℕ → Type 0
Fronts d kind test b =
    (before : Before) (text : List ℕ)
    → front_piece d before (b ∷ text) ≡ piece.Lexeme kind (prefix_len test text)

pub run_right : (d : Dialect) (kind : LexemeKind) (test : ℕ → Bool) (b : ℕ) (bytes rest after : List ℕ)
    → Fronts d kind test b → ((text : List ℕ) → (is_a_mark kind && bytes_eq text (59 ∷ [])) ≡ false)
    → prefix_len test rest ≡ 0 → after ≡ drop (prefix_len test bytes) bytes ++ rest
    → IsLexemeBefore d kind (b ∷ take (prefix_len test bytes) bytes) after
run_right d kind test b bytes rest after front goes_on stops is =
    let n = prefix_len test bytes in
    let count = length-prefix_len test bytes in
    record {
      more = n;
      long = omega (arith, count);
      front = λ before.
          ap (λ (t : List ℕ). front_piece d before (b ∷ t))
          (ap (λ (t : List ℕ). take n bytes ++ t) is ∙ sym (append_assoc (take n bytes) (drop n bytes) rest)
          ∙ ap (λ (t : List ℕ). t ++ rest) (take-append-drop n bytes))
          ∙ front before (bytes ++ rest)
          ∙ ap (λ (m : ℕ). piece.Lexeme kind m) (prefix_stops test bytes rest stops);
      goes_on = goes_on (b ∷ take n bytes);
    }

-- ---- words
pub word_front : (d : Dialect) (b : ℕ) → begins_word b ≡ true → Fronts d kind.Word is_word_byte b
unfolding front_piece
word_front d b begins before text =
    let blank : is_blank b ≡ false = grind (arith, nat_tests, begins) in
    let backslash : (b == 92) ≡ false = grind (arith, nat_tests, begins) in
    let hyphen : (b == 45) ≡ false = grind (arith, nat_tests, begins) in
    let slash : (b == 47) ≡ false = grind (arith, nat_tests, begins) in
    let string : (b == 39) ≡ false = grind (arith, nat_tests, begins) in
    let dollar : (b == 36) ≡ false = grind (arith, nat_tests, begins) in
    let quote : (b == 34) ≡ false = grind (arith, nat_tests, begins) in
    let back : (b == 96) ≡ false = grind (arith, nat_tests, begins) in
    let bracket : (b == 91) ≡ false = grind (arith, nat_tests, begins) in
    rw blank (rw backslash (rw hyphen (rw slash (rw string (rw dollar
    (rw quote (rw back (rw bracket (rw begins refl)))))))))

-- a byte that begins a word, and bytes of words
abbrev pub is_word_text : List ℕ → Bool
is_word_text [] = false
is_word_text (b ∷ bytes) = begins_word b && list_all is_word_byte bytes

pub word_right : (d : Dialect) (bytes rest : List ℕ) → is_word_text bytes ≡ true → IsEmptyOrParting rest
    → IsLexemeBefore d kind.Word bytes rest
word_right d [] rest word parted = absurd (true≢false (sym word))
word_right d (b ∷ bytes) rest word parted =
    let parts = and_parts (begins_word b) (list_all is_word_byte bytes) word in
    record {
      more = length bytes;
      long = omega arith;
      front = λ before. word_front d b parts.0 before (bytes ++ rest)
          ∙ ap (λ (n : ℕ). piece.Lexeme kind.Word n)
          (prefix_past is_word_byte bytes rest parts.1 (stops_parted is_word_byte rest refl parted));
      goes_on = refl;
    }

-- a word and a blank before pieces
pub word_then : (d : Dialect) (bytes : List ℕ) (ps : List TextPiece) (rest : List ℕ)
    → is_word_text bytes ≡ true
    → AreRight d ps rest → AreRight d (word bytes ∷ blank ∷ ps) rest
word_then d bytes ps rest is right =
    (word_right d bytes (32 ∷ (text_of ps ++ rest)) is refl, (refl, right))

-- ---- numbers
pub number_front : (d : Dialect) (b : ℕ) → is_ascii_digit b ≡ true
    → Fronts d kind.Number is_number_byte b
unfolding front_piece
number_front d b digit before text =
    let blank : is_blank b ≡ false = grind (arith, nat_tests, digit) in
    let backslash : (b == 92) ≡ false = grind (arith, nat_tests, digit) in
    let hyphen : (b == 45) ≡ false = grind (arith, nat_tests, digit) in
    let slash : (b == 47) ≡ false = grind (arith, nat_tests, digit) in
    let string : (b == 39) ≡ false = grind (arith, nat_tests, digit) in
    let dollar : (b == 36) ≡ false = grind (arith, nat_tests, digit) in
    let quote : (b == 34) ≡ false = grind (arith, nat_tests, digit) in
    let back : (b == 96) ≡ false = grind (arith, nat_tests, digit) in
    let bracket : (b == 91) ≡ false = grind (arith, nat_tests, digit) in
    let begins : begins_word b ≡ false = grind (arith, nat_tests, digit) in
    rw blank (rw backslash (rw hyphen (rw slash (rw string (rw dollar
    (rw quote (rw back (rw bracket (rw begins (rw digit refl))))))))))

abbrev pub is_number_text : List ℕ → Bool
is_number_text [] = false
is_number_text (b ∷ bytes) = is_ascii_digit b && list_all is_number_byte bytes

pub number_right : (d : Dialect) (bytes rest : List ℕ) → is_number_text bytes ≡ true → IsEmptyOrParting rest
    → IsLexemeBefore d kind.Number bytes rest
number_right d [] rest number parted = absurd (true≢false (sym number))
number_right d (b ∷ bytes) rest number parted =
    let parts = and_parts (is_ascii_digit b) (list_all is_number_byte bytes) number in
    record {
      more = length bytes;
      long = omega arith;
      front = λ before. number_front d b parts.0 before (bytes ++ rest)
          ∙ ap (λ (n : ℕ). piece.Lexeme kind.Number n)
          (prefix_past is_number_byte bytes rest parts.1 (stops_parted is_number_byte rest refl parted));
      goes_on = refl;
    }

-- ---- quoted names
closes_parted : (rest : List ℕ) (passed : ℕ) → IsEmptyOrParting rest
    → quote_end 34 false AfterQuote passed rest ≡ Some passed
unfolding quote_end
closes_parted [] passed parted = refl
closes_parted (b ∷ rest) passed parted = rw (fails_among (λ a. a == 34) b parting refl parted) refl

-- the quote that closes is the one after the name
name_ends : (name rest : List ℕ) (passed : ℕ) → IsEmptyOrParting rest
    → quote_end 34 false Inside passed (quotes_doubled name ++ 34 ∷ rest)
    ≡ Some (passed + (length (quotes_doubled name) + 1))
unfolding quote_end quotes_doubled
name_ends [] rest passed parted = closes_parted rest (passed + 1) parted
name_ends (b ∷ name) rest passed parted = at (b == 34) refl (λ n. name_ends name rest n parted)
  where
    at : (q : Bool) → (b == 34) ≡ q
        → ((n : ℕ) → quote_end 34 false Inside n (quotes_doubled name ++ 34 ∷ rest)
        ≡ Some (n + (length (quotes_doubled name) + 1)))
        → quote_end 34 false Inside passed
        ((cond q (34 ∷ 34 ∷ []) (b ∷ []) ++ quotes_doubled name) ++ 34 ∷ rest)
        ≡ Some (passed + (length (cond q (34 ∷ 34 ∷ []) (b ∷ []) ++ quotes_doubled name) + 1))
    at true is later = later (passed + 1 + 1) ∙ ap (λ (n : ℕ). Some n) (omega arith)
    at false is later = rw is (later (passed + 1) ∙ ap (λ (n : ℕ). Some n) (omega arith))

quote_front : (d : Dialect) (before : Before) (text : List ℕ)
    → front_piece d before (34 ∷ text) ≡ closed_or_open kind.Quoted (quote_end 34 false Inside 0 text)
unfolding front_piece
quote_front d before text = refl

pub quoted_right : (d : Dialect) (name rest : List ℕ) → IsEmptyOrParting rest
    → IsLexemeBefore d kind.Quoted (quoted_name name) rest
quoted_right d name rest parted = record {
  more = length (quotes_doubled name) + 1;
  long = let ends = length-append (quotes_doubled name) (34 ∷ []) in omega (arith, ends);
  front = λ before.
      quote_front d before ((quotes_doubled name ++ 34 ∷ []) ++ rest)
      ∙ ap (λ (t : List ℕ). closed_or_open kind.Quoted (quote_end 34 false Inside 0 t))
      (append_assoc (quotes_doubled name) (34 ∷ []) rest)
      ∙ ap (closed_or_open kind.Quoted) (name_ends name rest 0 parted)
      ∙ ap (λ (n : ℕ). piece.Lexeme kind.Quoted n) (omega arith);
  goes_on = refl;
}

-- a quoted name and a blank before pieces
pub name_then : (d : Dialect) (name : List ℕ) (ps : List TextPiece) (rest : List ℕ) → AreRight d ps rest
    → AreRight d (quoted_name_piece name ∷ blank ∷ ps) rest
name_then d name ps rest right = (quoted_right d name (32 ∷ (text_of ps ++ rest)) refl, (refl, right))

-- ---- marks
pub opens : (d : Dialect) (rest : List ℕ) → IsLexemeBefore d kind.Mark (40 ∷ []) rest
unfolding front_piece
opens d rest = record { more = 0; long = refl; front = λ before. refl; goes_on = refl }

pub closes : (d : Dialect) (rest : List ℕ) → IsLexemeBefore d kind.Mark (41 ∷ []) rest
unfolding front_piece
closes d rest = record { more = 0; long = refl; front = λ before. refl; goes_on = refl }

pub parts : (d : Dialect) (rest : List ℕ) → IsLexemeBefore d kind.Mark (44 ∷ []) rest
unfolding front_piece
parts d rest = record { more = 0; long = refl; front = λ before. refl; goes_on = refl }

-- a byte of the text of a type that is nothing else
pub record IsTypeMark (d : Dialect) (b : ℕ) : Type 0 where
  pub known : is_type_byte b ≡ true
  pub unquoted : is_unquoted d b ≡ true
  pub blank : (b == 32) ≡ false
  pub begins : begins_word b ≡ false
  pub digit : is_ascii_digit b ≡ false

not_both : (p q : Bool) → not (q && p) ≡ true → (p && q) ≡ false
not_both true true both = absurd (true≢false (sym both))
not_both true false both = refl
not_both false q both = refl

mark_front : (d : Dialect) (before : Before) (b : ℕ) (text : List ℕ) → IsTypeMark d b
    → front_piece d before (b ∷ text) ≡ piece.Lexeme kind.Mark 0
unfolding front_piece
mark_front d before b text is =
    let known = is.known in
    let other = is.blank in
    let begins = is.begins in
    let digit = is.digit in
    let blank : is_blank b ≡ false = grind (arith, nat_tests, known, other) in
    let backslash : (b == 92) ≡ false = grind (arith, nat_tests, known) in
    let hyphen : (b == 45) ≡ false = grind (arith, nat_tests, known) in
    let slash : (b == 47) ≡ false = grind (arith, nat_tests, known) in
    let string : (b == 39) ≡ false = grind (arith, nat_tests, known) in
    let dollar : (b == 36) ≡ false = grind (arith, nat_tests, known) in
    let quote : (b == 34) ≡ false = grind (arith, nat_tests, known) in
    let back : (b == 96) ≡ false = grind (arith, nat_tests, known) in
    let strange : is_strange b ≡ false = grind (arith, nat_tests, known) in
    let bracket = not_both (b == 91) (is_sqlite d) is.unquoted in
    rw blank (rw backslash (rw hyphen (rw slash (rw string (rw dollar
    (rw quote (rw back (rw bracket (rw begins (rw digit (rw strange refl)))))))))))

no_semicolon : (b : ℕ) → is_type_byte b ≡ true → (b == 59) ≡ false
no_semicolon b known = grind (arith, nat_tests, known)

pub mark_right : (d : Dialect) (b : ℕ) (rest : List ℕ) → IsTypeMark d b
    → IsLexemeBefore d kind.Mark (b ∷ []) rest
mark_right d b rest is = record {
  more = 0;
  long = refl;
  front = λ before. mark_front d before b rest is;
  goes_on = rw (no_semicolon b is.known) refl;
}

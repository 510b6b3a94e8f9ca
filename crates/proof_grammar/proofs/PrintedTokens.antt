-- A printed line is parts with gaps between them: how it is lexed, and that no byte of it ends a line.
use Rattle.std.proofs.Common.{◌≡◌, ◌<◌, ◌≤◌, ◌+◌, ◌-◌, ◌*◌, ◌^◌, ℕ, suc, true, false, ◌==◌, List, [], ◌∷◌, ◌++◌, length, get_or, None, refl, sym, ◌∙◌, ap, subst, arith, length-append, rules}
use Rattle.std.proofs.Math.Seq.{take-append_seam, drop-append_seam}
use Rattle.std.specs.Prelude.{All, codes, decimal, fold, map}
use Rattle.std.specs.List.{list_all}
use Rattle.std.specs.Char.{is_ascii_alphabetic, is_ascii_digit}
use Rattle.std.proofs.lemmas.Bool.{and_parts}
use Rattle.std.proofs.lemmas.Bool.Decides.{nat_tests}
use Rattle.std.proofs.lemmas.Fmt.{decimal_nonempty, length-decimal-le, digits_decimal, digits_value-decimal}
use Rattle.std.proofs.lemmas.List.{append-nil}
use Rattle.std.proofs.lemmas.List.Sums.{AllPass-from_list_all, list_all-from_AllPass}
use Rattle.std.proofs.lemmas.Str.Parse.{IsNumeralModel, numerals_by_fold}
use Rattle.schema_model.proofs.NumeralLemmas.{digits_value-model}
use Rattle.schema_model.specs.Names.{is_bare_name, is_name_byte}
use Rattle.schema_model.specs.declared.naming.Naming.{Naming}
use Rattle.lexer.specs.declared.piece.Piece.TheVariants as piece
use Rattle.lexer.specs.Modes as mode
use Rattle.lexer.specs.declared.token.TokenKind.TheVariants as token
use Rattle.lexer.specs.Bytes.{is_gap, run_length, is_number, number_of}
use Rattle.lexer.specs.Pieces.{front_piece, run_piece}
use Rattle.lexer.specs.Tokens.{Mark, tokens_after, led_by_mark}
use Rattle.lexer.proofs.Steps.{at_token}
use Rattle.schema_printer.specs.Printing.{side_text}
use Rattle.schema_printer.specs.Spelling.{spelling}
use Rattle.schema_grammar.specs.declared.format.Format.TheVariants as format
use Rattle.schema_grammar.proofs.PrintedLexing.{Apart, name_lexed, blank_lexed, arrow_lexed, double_arrow_lexed}
use Rattle.schema_grammar.proofs.PrintedTexts.{Bytes, bytes_both, words_bytes, is_line_byte}
use Rattle.schema_grammar.specs.Printed.{IsReadBack}
use Rattle.schema_grammar.proofs.SpelledWords.{nothing_left, Parted, led_by_all, side_marks, side_end, side_lexed, side_bytes}

-- ---- a decimal
-- reads digits from the left, after a number
abbrev read_on : ℕ → List ℕ → ℕ
read_on value digits = fold (λ v d. v * 10 + (d - 48)) value digits

-- what is known of the decimal of a number
pub record IsDecimal (n : ℕ) (word : List ℕ) : Type 0 where
  pub digits : list_all is_ascii_digit word ≡ true
  pub not_empty : 0 < length word
  pub within_limit : length word ≤ 9
  pub value : number_of word ≡ n

pub decimal_is : (n : ℕ) → n < 10 ^ 9 → IsDecimal n (decimal n)
decimal_is n small =
    let wide : n < 2 ^ 64 = omega arith in
    let own : IsNumeralModel (λ ds. list_all is_ascii_digit ds ≡ true) number_of =
    numerals_by_fold _ digits_value-model read_on (search rules) in
    record { digits = digits_decimal own n wide; not_empty = decimal_nonempty n wide; within_limit = length-decimal-le 9 n (omega arith) small wide; value = digits_value-decimal own n wide }

run_is : (word rest : List ℕ) → list_all is_ascii_digit word ≡ true → Apart rest
    → run_length (word ++ rest) ≡ length word
run_is [] [] e apart = refl
run_is [] (b ∷ bs) e apart = rw apart refl
run_is (b ∷ bs) rest e apart =
    let parts = and_parts (is_ascii_digit b) (list_all is_ascii_digit bs) e in
    let digit = parts.0 in
    let byte : is_name_byte b ≡ true = grind (arith, nat_tests) in
    let more : run_length (bs ++ rest) ≡ length bs = run_is bs rest parts.1 apart in
    rw (byte, more) (omega arith)

front_number : (naming : Naming) (word rest : List ℕ) → list_all is_ascii_digit word ≡ true
    → 0 < length word → length word ≤ 9 → Apart rest
    → front_piece (mode.numbered naming) (word ++ rest) ≡ piece.Token (token.Number (number_of word)) (length word)
unfolding front_piece run_piece is_number
front_number naming [] rest e not_empty within_limit apart = absurd (omega arith)
front_number naming (first ∷ others) rest e not_empty within_limit apart =
    let parts = and_parts (is_ascii_digit first) (list_all is_ascii_digit others) e in
    let digit = parts.0 in
    let gap : is_gap first ≡ false = grind (arith, nat_tests) in
    let hash : (first == 35) ≡ false = grind (arith, nat_tests) in
    let byte : is_name_byte first ≡ true = grind (arith, nat_tests) in
    let letter : is_ascii_alphabetic first ≡ false = grind (arith, nat_tests) in
    let other : is_bare_name (first ∷ others) ≡ false = rw letter (grind (arith, nat_tests)) in
    let number : is_number (first ∷ others) ≡ true = grind (arith, nat_tests) in
    let more : run_length (others ++ rest) ≡ length others = run_is others rest parts.1 apart in
    let one : 1 + length others ≡ suc (length others) = omega arith in
    rw (gap, hash, byte) (rw (more, one) (rw (take-append_seam others rest) (rw (other, number) refl)))

-- ---- parts and gaps
-- what is printed between gaps
pub data Part : Type 0 where
  keyword : List ℕ → Part
  number : ℕ → Part
  side : List (List ℕ) → Part

-- what is printed between two parts; a colon has a blank before it, but for the first one
pub data Gap : Type 0 where
  blank : Gap
  first_colon : Gap
  colon : Gap
  arrow : Gap
  double_arrow : Gap

abbrev pub IsProper : Naming → Part → Type 0
IsProper naming (keyword word) = is_bare_name word ≡ true
IsProper naming (number n) = n < 10 ^ 9
IsProper naming (side names) = All (IsReadBack format.Plain naming) names

abbrev part_text : Naming → Part → List ℕ
part_text naming (keyword word) = word
part_text naming (number n) = decimal n
part_text naming (side names) = side_text (map (spelling naming) names)

abbrev part_marks : Naming → ℕ → Part → List Mark
part_marks naming column (keyword word) =
    record { kind = token.Identifier; column = column; length = length word; word = word } ∷ []
part_marks naming column (number n) =
    record { kind = token.Number n; column = column; length = length (decimal n); word = decimal n } ∷ []
part_marks naming column (side names) = side_marks naming column names

abbrev part_end : Naming → ℕ → Part → ℕ
part_end naming column (keyword word) = column + length word
part_end naming column (number n) = column + length (decimal n)
part_end naming column (side names) = side_end naming column names

abbrev pub gap_text : Gap → List ℕ
gap_text blank = codes " "
gap_text first_colon = codes ": "
gap_text colon = codes " : "
gap_text arrow = codes " -> "
gap_text double_arrow = codes " ->> "

abbrev pub gap_marks : ℕ → Gap → List Mark
gap_marks column blank = []
gap_marks column first_colon = record { kind = token.Colon; column = column; length = length (codes ":"); word = codes ":" } ∷ []
gap_marks column colon = record { kind = token.Colon; column = column + 1; length = length (codes ":"); word = codes ":" } ∷ []
gap_marks column arrow = record { kind = token.Arrow; column = column + 1; length = length (codes "->"); word = codes "->" } ∷ []
gap_marks column double_arrow =
    record { kind = token.DoubleArrow; column = column + 1; length = length (codes "->>"); word = codes "->>" } ∷ []

abbrev pub gap_end : ℕ → Gap → ℕ
gap_end column blank = column + 1
gap_end column first_colon = column + 1 + 1
gap_end column colon = column + 1 + 1 + 1
gap_end column arrow = column + 1 + 2 + 1
gap_end column double_arrow = column + 1 + 3 + 1

-- a part, and the others, each after its gap
abbrev pub text_of : Naming → Part → List (Gap × Part) → List ℕ
text_of naming p [] = part_text naming p
text_of naming p (next ∷ others) = part_text naming p ++ (gap_text next.0 ++ text_of naming next.1 others)

abbrev pub marks_of : Naming → ℕ → Part → List (Gap × Part) → List Mark
marks_of naming column p [] = part_marks naming column p
marks_of naming column p (next ∷ others) =
    part_marks naming column p
    ++ (gap_marks (part_end naming column p) next.0
    ++ marks_of naming (gap_end (part_end naming column p) next.0) next.1 others)

abbrev pub AreProper : Naming → List (Gap × Part) → Type 0
AreProper naming [] = Unit {0}
AreProper naming (next ∷ others) = IsProper naming next.1 × AreProper naming others

-- ---- how they are lexed
part_lexed : (naming : Naming) (column : ℕ) (p : Part) (rest : List ℕ) → IsProper naming p → Parted rest
    → tokens_after (mode.numbered naming) 0 column (part_text naming p ++ rest)
    ≡ led_by_all (part_marks naming column p) (tokens_after (mode.numbered naming) 0 (part_end naming column p) rest)
part_lexed naming column (keyword word) rest proper parted =
    name_lexed (mode.numbered naming) column word rest proper parted.0
part_lexed naming column (number n) rest small parted =
    let is = decimal_is n small in
    let not_empty : 0 < length (decimal n ++ rest) = omega (arith, length-append (decimal n) rest, is.not_empty) in
    at_token (mode.numbered naming) column (decimal n ++ rest) (token.Number (number_of (decimal n)))
    (length (decimal n)) not_empty (sym (front_number naming (decimal n) rest is.digits is.not_empty is.within_limit parted.0))
    ∙ (rw (take-append_seam (decimal n) rest, drop-append_seam (decimal n) rest, is.value) refl)
part_lexed naming column (side names) rest proper parted =
    side_lexed format.Plain naming (mode.numbered naming) column names rest refl proper parted

gap_lexed : (naming : Naming) (column : ℕ) (g : Gap) (rest : List ℕ)
    → tokens_after (mode.numbered naming) 0 column (gap_text g ++ rest)
    ≡ led_by_all (gap_marks column g) (tokens_after (mode.numbered naming) 0 (gap_end column g) rest)
unfolding front_piece
gap_lexed naming column blank rest = blank_lexed (mode.numbered naming) column rest
gap_lexed naming column first_colon rest =
    at_token (mode.numbered naming) column (58 ∷ 32 ∷ rest) token.Colon 1 (omega arith) refl
    ∙ ap (led_by_mark _) (blank_lexed (mode.numbered naming) (column + 1) rest)
gap_lexed naming column colon rest =
    blank_lexed (mode.numbered naming) column (58 ∷ 32 ∷ rest)
    ∙ at_token (mode.numbered naming) (column + 1) (58 ∷ 32 ∷ rest) token.Colon 1 (omega arith) refl
    ∙ ap (led_by_mark _) (blank_lexed (mode.numbered naming) (column + 1 + 1) rest)
gap_lexed naming column arrow rest = arrow_lexed (mode.numbered naming) column rest
gap_lexed naming column double_arrow rest = double_arrow_lexed (mode.numbered naming) column rest

pub parts_lexed : (naming : Naming) (column : ℕ) (p : Part) (others : List (Gap × Part)) → IsProper naming p
    → AreProper naming others
    → tokens_after (mode.numbered naming) 0 column (text_of naming p others) ≡ record { marks = marks_of naming column p others; stop = None }
parts_lexed naming column p [] here rest =
    ap (tokens_after (mode.numbered naming) 0 column) (sym (append-nil (part_text naming p))) ∙ part_lexed naming column p [] here (tt, refl)
    ∙ ap (led_by_all (part_marks naming column p)) (nothing_left (mode.numbered naming) (part_end naming column p))
    ∙ ap (λ ms. record { marks = ms; stop = None }) (append-nil (part_marks naming column p))
parts_lexed naming column p (next ∷ others) here rest =
    let end = part_end naming column p in
    let more = text_of naming next.1 others in
    let parted : Parted (gap_text next.0 ++ more) = elim next.0 as (λ g. Parted (gap_text g ++ more)) [
      | blank ↦ (refl, refl)
      | first_colon ↦ (refl, refl)
      | colon ↦ (refl, refl)
      | arrow ↦ (refl, refl)
      | double_arrow ↦ (refl, refl)
    ] in
    part_lexed naming column p (gap_text next.0 ++ more) here parted
    ∙ ap (led_by_all (part_marks naming column p))
    (gap_lexed naming end next.0 more
    ∙ ap (led_by_all (gap_marks end next.0)) (parts_lexed naming (gap_end end next.0) next.1 others rest.0 rest.1))

-- ---- no line feed and no carriage return stands in them
part_bytes : (naming : Naming) (p : Part) → IsProper naming p → Bytes (part_text naming p)
part_bytes naming (keyword word) proper =
    subst (λ (w : List ℕ). Bytes w) (append-nil word) (words_bytes (word ∷ []) (proper, tt))
part_bytes naming (number n) small =
    let digits = AllPass-from_list_all is_ascii_digit (decimal n) (decimal_is n small).digits in
    list_all-from_AllPass is_line_byte (decimal n)
    (λ k d h. let digit : is_ascii_digit (get_or (decimal n) k d) ≡ true = digits k d h in
    grind (arith, nat_tests))
part_bytes naming (side names) proper = side_bytes format.Plain naming names proper

pub parts_bytes : (naming : Naming) (p : Part) (others : List (Gap × Part)) → IsProper naming p
    → AreProper naming others
    → Bytes (text_of naming p others)
parts_bytes naming p [] here rest = part_bytes naming p here
parts_bytes naming p (next ∷ others) here rest =
    let gap : Bytes (gap_text next.0) = elim next.0 as (λ g. Bytes (gap_text g))
    [ blank ↦ refl | first_colon ↦ refl | colon ↦ refl | arrow ↦ refl | double_arrow ↦ refl ] in
    bytes_both (part_text naming p) (gap_text next.0 ++ text_of naming next.1 others) (part_bytes naming p here)
    (bytes_both (gap_text next.0) (text_of naming next.1 others) gap (parts_bytes naming next.1 others rest.0 rest.1))

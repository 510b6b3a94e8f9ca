-- How names, blanks and signs of a printed line are lexed.
use Rattle.std.proofs.Common.{◌≡◌, ◌+◌, ℕ, suc, true, false, ◌==◌, ◌&&◌, List, [], ◌∷◌, ◌++◌, length, refl, sym, ◌∙◌, ap, arith}
use Rattle.std.proofs.Math.Seq.{take-append_seam, drop-append_seam}
use Rattle.std.specs.Prelude.{nat_lt, nat_le}
use Rattle.std.specs.List.{list_all}
use Rattle.std.specs.Char.{is_ascii_alphabetic}
use Rattle.std.proofs.lemmas.Bool.Decides.{nat_tests}
use Rattle.std.proofs.lemmas.Bool.{and_parts}
use Rattle.schema_model.specs.Names.{is_bare_name, is_name_byte, is_word}
use Rattle.lexer.specs.declared.piece.Piece.TheVariants as piece
use Rattle.lexer.specs.declared.mode.Mode.{Mode}
use Rattle.lexer.specs.declared.token.TokenKind.TheVariants as token
use Rattle.lexer.specs.Bytes.{is_gap, run_length}
use Rattle.lexer.specs.Pieces.{front_piece, run_piece}
use Rattle.lexer.specs.Tokens.{tokens_after, led_by_mark}
use Rattle.lexer.proofs.Steps.{at_token, after_gap}

-- what is left of a line begins with a byte of no name, or is nothing
abbrev pub Apart : List ℕ → Type 0
Apart [] = Unit {0}
Apart (b ∷ bs) = is_name_byte b ≡ false

-- the parts of a name
pub record IsNamed (first : ℕ) (others : List ℕ) : Type 0 where
  pub letter : is_ascii_alphabetic first ≡ true
  pub bytes : list_all is_name_byte (first ∷ others) ≡ true

pub named_parts : (first : ℕ) (others : List ℕ) → is_bare_name (first ∷ others) ≡ true → IsNamed first others
named_parts first others e =
    let word = and_parts (is_word (first ∷ others)) (nat_le (length (first ∷ others)) 31) e in
    let inner = and_parts (nat_lt 0 (length (first ∷ others)) && is_ascii_alphabetic first) (list_all is_name_byte (first ∷ others)) word.0 in
    record { letter = (and_parts (nat_lt 0 (length (first ∷ others))) (is_ascii_alphabetic first) inner.0).1; bytes = inner.1 }

-- a run ends where the name does
run_is : (word rest : List ℕ) → list_all is_name_byte word ≡ true → Apart rest → run_length (word ++ rest) ≡ length word
run_is [] [] e apart = refl
run_is [] (b ∷ bs) e apart = rw apart refl
run_is (b ∷ bs) rest e apart =
    let parts = and_parts (is_name_byte b) (list_all is_name_byte bs) e in
    let more : run_length (bs ++ rest) ≡ length bs = run_is bs rest parts.1 apart in
    rw (parts.0, more) (omega arith)

-- the front of a text that begins with a name
front_name : (m : Mode) (word rest : List ℕ) → is_bare_name word ≡ true → Apart rest → front_piece m (word ++ rest) ≡ piece.Token token.Identifier (length word)
unfolding front_piece run_piece
front_name m [] rest e apart = cc
front_name m (first ∷ others) rest e apart =
    let parts = named_parts first others e in
    let letter = parts.letter in
    let gap : is_gap first ≡ false = grind (arith, nat_tests) in
    let hash : (first == 35) ≡ false = grind (arith, nat_tests) in
    let byte : is_name_byte first ≡ true = (and_parts (is_name_byte first) (list_all is_name_byte others) parts.bytes).0 in
    let bytes = (and_parts (is_name_byte first) (list_all is_name_byte others) parts.bytes).1 in
    let more : run_length (others ++ rest) ≡ length others = run_is others rest bytes apart in
    let one : 1 + length others ≡ suc (length others) = omega arith in
    rw (gap, hash, byte) (rw (more, one) (rw (take-append_seam others rest, e) refl))

-- a name is a token
pub name_lexed : (m : Mode) (column : ℕ) (word rest : List ℕ) → is_bare_name word ≡ true → Apart rest
    → tokens_after m 0 column (word ++ rest) ≡ led_by_mark (record { kind = token.Identifier; column = column; length = length word; word = word }) (tokens_after m 0 (column + length word) rest)
name_lexed m column [] rest e apart = cc
name_lexed m column (first ∷ others) rest e apart =
    let whole = at_token m column ((first ∷ others) ++ rest) token.Identifier (length (first ∷ others)) (omega arith) (sym (front_name m (first ∷ others) rest e apart)) in
    whole ∙ (rw (take-append_seam (first ∷ others) rest, drop-append_seam (first ∷ others) rest) refl)

abbrev pub AllNames : List (List ℕ) → Type 0
AllNames [] = Unit {0}
AllNames (word ∷ words) = (is_bare_name word ≡ true) × AllNames words

pub blank_lexed : (m : Mode) (column : ℕ) (text : List ℕ) → tokens_after m 0 column (32 ∷ text) ≡ tokens_after m 0 (column + 1) text
unfolding front_piece
blank_lexed m column text = after_gap m column (32 ∷ text) (omega arith) refl

pub arrow_lexed : (m : Mode) (column : ℕ) (rest : List ℕ) → tokens_after m 0 column (32 ∷ 45 ∷ 62 ∷ 32 ∷ rest)
    ≡ led_by_mark (record { kind = token.Arrow; column = column + 1; length = 2; word = 45 ∷ 62 ∷ [] }) (tokens_after m 0 (column + 1 + 2 + 1) rest)
unfolding front_piece
arrow_lexed m column rest =
    blank_lexed m column (45 ∷ 62 ∷ 32 ∷ rest) ∙ at_token m (column + 1) (45 ∷ 62 ∷ 32 ∷ rest) token.Arrow 2 (omega arith) refl
    ∙ ap (led_by_mark (record { kind = token.Arrow; column = column + 1; length = 2; word = 45 ∷ 62 ∷ [] })) (blank_lexed m (column + 1 + 2) rest)

pub double_arrow_lexed : (m : Mode) (column : ℕ) (rest : List ℕ) → tokens_after m 0 column (32 ∷ 45 ∷ 62 ∷ 62 ∷ 32 ∷ rest)
    ≡ led_by_mark (record { kind = token.DoubleArrow; column = column + 1; length = 3; word = 45 ∷ 62 ∷ 62 ∷ [] }) (tokens_after m 0 (column + 1 + 3 + 1) rest)
unfolding front_piece
double_arrow_lexed m column rest =
    blank_lexed m column (45 ∷ 62 ∷ 62 ∷ 32 ∷ rest) ∙ at_token m (column + 1) (45 ∷ 62 ∷ 62 ∷ 32 ∷ rest) token.DoubleArrow 3 (omega arith) refl
    ∙ ap (led_by_mark (record { kind = token.DoubleArrow; column = column + 1; length = 3; word = 45 ∷ 62 ∷ 62 ∷ [] })) (blank_lexed m (column + 1 + 3) rest)

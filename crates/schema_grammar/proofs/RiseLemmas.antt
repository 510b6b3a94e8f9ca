-- The tokens of a line stand at columns that rise.
use Rattle.std.proofs.Common.{◌≡◌, ◌<◌, ◌≤◌, ◌+◌, ◌-◌, ℕ, zero, suc, List, [], ◌∷◌, length, Option, Some, None, refl, subst, arith}
use Rattle.lexer.proofs.Steps.{LiesIn, lies_in}
use Rattle.lexer.specs.declared.piece.Piece.{Piece}
use Rattle.lexer.specs.declared.piece.Piece.TheVariants as piece
use Rattle.lexer.specs.declared.mode.Mode.{Mode}
use Rattle.lexer.specs.declared.token.LexError.{LexError}
use Rattle.lexer.specs.Pieces.{front_piece}
use Rattle.lexer.specs.Tokens.{Mark, Lexed, tokens_after, led_by, lex}
use Rattle.schema_grammar.specs.Diagnostics.{span_at}

-- tokens stand one after the other, from a column on
abbrev IsRising : ℕ → List Mark → Option LexError → Type 0
IsRising from [] None = Unit {0}
IsRising from [] (Some s) = from ≤ s.column
IsRising from (m ∷ ms) stop = (from ≤ m.column) × (0 < m.length) × IsRising (m.column + m.length) ms stop

rising_earlier : (from to : ℕ) (ms : List Mark) (stop : Option LexError) → from ≤ to → IsRising to ms stop → IsRising from ms stop
rising_earlier from to [] None h r = tt
rising_earlier from to [] (Some s) h r = omega arith
rising_earlier from to (m ∷ ms) stop h (first, not_empty, rest) = ((omega arith), not_empty, rest)

token_rises : (column n : ℕ) (afterwards : ℕ → Lexed) {text : List ℕ} → LiesIn text n
    → ((skip : ℕ) → IsRising (column + 1 + skip) (afterwards skip).marks (afterwards skip).stop)
    → (column + 0 ≤ column) × (0 < n) × IsRising (column + n) (afterwards (n - 1)).marks (afterwards (n - 1)).stop
token_rises column n afterwards lies rest =
    let is_not_empty : 0 < n = lies.not_empty in
    let same : column + 1 + (n - 1) ≡ column + n = omega arith in
    let of : ℕ → Type 0 = λ c. IsRising c (afterwards (n - 1)).marks (afterwards (n - 1)).stop in
    ((omega arith), is_not_empty, subst of same (rest (n - 1)))

-- the tokens at whose front this piece stands
piece_rises : (m : Mode) (p : Piece) (column : ℕ) (text : List ℕ) (afterwards : ℕ → Lexed) → 0 < length text → p ≡ front_piece m text
    → ((skip : ℕ) → IsRising (column + 1 + skip) (afterwards skip).marks (afterwards skip).stop) → IsRising (column + 0) (led_by p column text afterwards).marks (led_by p column text afterwards).stop
piece_rises m piece.Gap column text afterwards not_empty is rest = rising_earlier (column + 0) (column + 1 + 0) (afterwards 0).marks (afterwards 0).stop (omega arith) (rest 0)
piece_rises m piece.Comment column text afterwards not_empty is rest = tt
piece_rises m (piece.Token k n) column text afterwards not_empty is rest =
    token_rises column n afterwards (lies_in m text k n not_empty is) rest
piece_rises m (piece.Flaw why n) column text afterwards not_empty is rest = omega arith

lexed_rises : (m : Mode) (skip column : ℕ) (text : List ℕ) → IsRising (column + skip) (tokens_after m skip column text).marks (tokens_after m skip column text).stop
unfolding tokens_after
lexed_rises m zero column [] = tt
lexed_rises m (suc n) column [] = tt
lexed_rises m zero column (b ∷ bs) =
    piece_rises m (front_piece m (b ∷ bs)) column (b ∷ bs) (λ skip. tokens_after m skip (column + 1) bs) (omega arith) refl (λ skip. lexed_rises m skip (column + 1) bs)
lexed_rises m (suc n) column (b ∷ bs) =
    let same : column + 1 + n ≡ column + suc n = omega arith in
    let of : ℕ → Type 0 = λ c. IsRising c (tokens_after m n (column + 1) bs).marks (tokens_after m n (column + 1) bs).stop in
    subst of same (lexed_rises m n (column + 1) bs)

from_on : (line afterwards : ℕ) (ms : List Mark) (stop : Option LexError) (q : ℕ) → IsRising afterwards ms stop → q ≤ length ms → afterwards ≤ (span_at line afterwards ms stop q).column
from_on line afterwards [] None q rising h = omega arith
from_on line afterwards [] (Some s) q rising h = rising
from_on line afterwards (m ∷ ms) stop zero rising h = rising.0
from_on line afterwards (m ∷ ms) stop (suc q) rising h =
    let next = from_on line (m.column + m.length) ms stop q rising.2 (omega arith) in let first = rising.0 in omega arith

spans_rise : (line afterwards : ℕ) (ms : List Mark) (stop : Option LexError) (p q : ℕ) → IsRising afterwards ms stop → p < q → q ≤ length ms
    → (span_at line afterwards ms stop p).column < (span_at line afterwards ms stop q).column
spans_rise line afterwards [] stop p q rising h g = absurd (omega arith)
spans_rise line afterwards (m ∷ ms) stop p zero rising h g = absurd (omega arith)
spans_rise line afterwards (m ∷ ms) stop zero (suc q) rising h g =
    let next = from_on line (m.column + m.length) ms stop q rising.2 (omega arith) in let not_empty = rising.1 in omega arith
spans_rise line afterwards (m ∷ ms) stop (suc p) (suc q) rising h g = spans_rise line (m.column + m.length) ms stop p q rising.2 (omega arith) (omega arith)

-- a later position of a line stands in a greater column
pub positions-law : (m : Mode) (line : ℕ) (text : List ℕ) (p q : ℕ) → p < q → q ≤ length (lex m text).marks
    → (span_at line 1 (lex m text).marks (lex m text).stop p).column < (span_at line 1 (lex m text).marks (lex m text).stop q).column
positions-law m line text p q h g =
    spans_rise line 1 (lex m text).marks (lex m text).stop p q (rising_earlier 1 (1 + 0) (lex m text).marks (lex m text).stop (omega arith) (lexed_rises m 0 1 text)) h g

-- Lexemes that stay within an element: what follows them is read as at its start.
use Rattle.std.proofs.Common.{◌≡◌, ◌+◌, ◌==◌, ◌&&◌, ℕ, Bool, true, false, not, List, [], ◌∷◌, ◌++◌, map, length, refl, sym, ap, ◌∙◌, arith}
use Rattle.std.proofs.lemmas.Bool.{true≢false}
use Rattle.std.proofs.lemmas.Bool.Decides.{nat_tests}
use Rattle.sql_lexemes.specs.Lexemes.{Lexed}
use Rattle.sql_definitions.specs.Tables.{ends_element, length_left, open_after}
use Rattle.ddl_pieces.proofs.Cutting.{depth_past}
use Rattle.ddl_pieces.specs.Pieces.{TextPiece, lexemes_from}
use Rattle.import_laws.specs.StatedTypes.{stay_within}
use Rattle.import_laws.proofs.PieceLemmas.{lexemes_append, place_after}
use Rattle.import_laws.proofs.UnplacedLemmas.{unplaced}

none_open : (depth : ℕ) → (depth == 0) ≡ true → depth ≡ 0
none_open depth is = grind (arith, nat_tests, is)

-- an element has these lexemes, and those of what follows them
length_after : (depth : ℕ) (ls rest : List Lexed) → stay_within depth ls ≡ true
    → length_left depth (ls ++ rest) ≡ length ls + length_left 0 rest
unfolding stay_within length_left
length_after depth [] rest is =
    let same : length_left depth rest ≡ length_left 0 rest =
    ap (λ (n : ℕ). length_left n rest) (none_open depth is) in omega (arith, same)
length_after depth (l ∷ ls) rest is =
    by_test (ends_element depth l) refl is (length_after (open_after depth l) ls rest)
  where
    by_test : (b : Bool) → ends_element depth l ≡ b → (not b && stay_within (open_after depth l) ls) ≡ true
        → (stay_within (open_after depth l) ls ≡ true
        → length_left (open_after depth l) (ls ++ rest) ≡ length ls + length_left 0 rest)
        → length_left depth ((l ∷ ls) ++ rest) ≡ length (l ∷ ls) + length_left 0 rest
    by_test true ends wrong later = absurd (true≢false (sym wrong))
    by_test false goes within later = rw goes (let same = later within in rw same (omega arith))

-- so it ends at a lexeme that ends it
pub within_end : (ls : List Lexed) (x : Lexed) (rest : List Lexed) → stay_within 0 ls ≡ true → ends_element 0 x ≡ true
    → length_left 0 (ls ++ x ∷ rest) ≡ length ls
unfolding length_left
within_end ls x rest within ends =
    let whole = length_after 0 ls (x ∷ rest) within in
    let last : length_left 0 (x ∷ rest) ≡ 0 = rw ends refl in omega (arith, whole, last)

pub within_append : (depth : ℕ) (xs ys : List Lexed) → stay_within depth xs ≡ true
    → stay_within depth (xs ++ ys) ≡ stay_within 0 ys
unfolding stay_within
within_append depth [] ys is = ap (λ (n : ℕ). stay_within n ys) (none_open depth is)
within_append depth (x ∷ xs) ys is =
    by_test (ends_element depth x) is (within_append (open_after depth x) xs ys)
  where
    by_test : (b : Bool) → (not b && stay_within (open_after depth x) xs) ≡ true
        → (stay_within (open_after depth x) xs ≡ true
        → stay_within (open_after depth x) (xs ++ ys) ≡ stay_within 0 ys)
        → (not b && stay_within (open_after depth x) (xs ++ ys)) ≡ stay_within 0 ys
    by_test true wrong later = absurd (true≢false (sym wrong))
    by_test false within later = later within

-- the lexemes of joined pieces stay within an element where those of either do
pub pieces_within : (place : ℕ) (xs ys : List TextPiece) → depth_past 1 xs ≡ 1
    → ((at : ℕ) → stay_within 0 (lexemes_from at 1 xs) ≡ true)
    → ((at : ℕ) → stay_within 0 (lexemes_from at 1 ys) ≡ true)
    → stay_within 0 (lexemes_from place 1 (xs ++ ys)) ≡ true
pieces_within place xs ys back first second =
    ap (stay_within 0) (lexemes_append place 1 xs ys)
    ∙ within_append 0 (lexemes_from place 1 xs) (lexemes_from (place_after place xs) (depth_past 1 xs) ys)
    (first place)
    ∙ ap (λ (n : ℕ). stay_within 0 (lexemes_from (place_after place xs) n ys)) back
    ∙ second (place_after place xs)

-- wherever they stand in a text
within_same : (depth : ℕ) (ls : List Lexed) → stay_within depth (map unplaced ls) ≡ stay_within depth ls
unfolding stay_within
within_same depth [] = refl
within_same depth (l ∷ ls) =
    ap (λ (b : Bool). not (ends_element depth l) && b) (within_same (open_after depth l) ls)

pub within_moved : (ls ms : List Lexed) → map unplaced ls ≡ map unplaced ms → stay_within 0 ls ≡ stay_within 0 ms
within_moved ls ms same = sym (within_same 0 ls) ∙ ap (stay_within 0) same ∙ within_same 0 ms

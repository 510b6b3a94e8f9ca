-- The lexemes of pieces that are joined, and the first of them that passes a test.
use Rattle.std.proofs.Common.{◌≡◌, ◌+◌, ℕ, Bool, true, false, ◌||◌, List, [], ◌∷◌, ◌++◌, length, refl, ap, arith, Option, Some, None}
use Rattle.std.specs.List.{list_any, position_or_len}
use Rattle.sql_lexemes.specs.declared.lexeme.LexemeKind.{LexemeKind}
use Rattle.sql_lexemes.specs.Lexemes.{Lexed}
use Rattle.sql_lexemes.specs.Statements.{depth_after}
use Rattle.ddl_pieces.proofs.Cutting.{depth_of, depth_past}
use Rattle.ddl_pieces.specs.Pieces.{TextPiece, led_by_kind, lexeme_at, lexemes_from}

-- where the bytes after pieces stand
abbrev pub place_after : ℕ → List TextPiece → ℕ
place_after place [] = place
place_after place (p ∷ ps) = place_after (place + length p.bytes) ps

led_append : (place depth : ℕ) (kind : Option LexemeKind) (bytes : List ℕ) (all some rest : ℕ → List Lexed)
    → ((n : ℕ) → all n ≡ some n ++ rest n)
    → led_by_kind place depth kind bytes all
    ≡ led_by_kind place depth kind bytes some ++ rest (depth_of depth kind bytes)
led_append place depth None bytes all some rest each = each depth
led_append place depth (Some kind) bytes all some rest each =
    ap (λ (ls : List Lexed). lexeme_at place depth kind bytes ∷ ls)
    (each (depth_after (lexeme_at place depth kind bytes)))

pub lexemes_append : (place depth : ℕ) (xs ys : List TextPiece)
    → lexemes_from place depth (xs ++ ys)
    ≡ lexemes_from place depth xs ++ lexemes_from (place_after place xs) (depth_past depth xs) ys
unfolding lexemes_from
lexemes_append place depth [] ys = refl
lexemes_append place depth (p ∷ ps) ys =
    led_append place depth p.kind p.bytes (λ n. lexemes_from (place + length p.bytes) n (ps ++ ys))
    (λ n. lexemes_from (place + length p.bytes) n ps)
    (λ n. lexemes_from (place_after (place + length p.bytes) ps) (depth_past n ps) ys)
    (λ n. lexemes_append (place + length p.bytes) n ps ys)

-- the first that passes a test stands after those that do not
pub first_at : (p : Lexed → Bool) (xs : List Lexed) (x : Lexed) (rest : List Lexed) → list_any p xs ≡ false
    → p x ≡ true
    → position_or_len p (xs ++ x ∷ rest) ≡ length xs
first_at p [] x rest none here = rw here refl
first_at p (y ∷ ys) x rest none here = by_first (p y) refl none (first_at p ys x rest)
  where
    by_first : (b : Bool) → p y ≡ b → (b || list_any p ys) ≡ false
        → (list_any p ys ≡ false → p x ≡ true → position_or_len p (ys ++ x ∷ rest) ≡ length ys)
        → position_or_len p ((y ∷ ys) ++ x ∷ rest) ≡ length (y ∷ ys)
    by_first true is later before = cc
    by_first false is later before = rw is (let same = before later here in rw same (omega arith))

-- where none passes it, there is no first
pub none_at : (p : Lexed → Bool) (xs : List Lexed) → list_any p xs ≡ false → position_or_len p xs ≡ length xs
none_at p [] none = refl
none_at p (y ∷ ys) none = by_first (p y) refl none (none_at p ys)
  where
    by_first : (b : Bool) → p y ≡ b → (b || list_any p ys) ≡ false
        → (list_any p ys ≡ false → position_or_len p ys ≡ length ys)
        → position_or_len p (y ∷ ys) ≡ length (y ∷ ys)
    by_first true is later before = cc
    by_first false is later before = rw is (let same = before later in rw same (omega arith))

-- The texts of values.
use Rattle.std.proofs.Common.{◌≡◌, ℕ, zero, suc, arith, ◌+◌, ◌<◌, ◌≤◌, Bool, true, false, List, [], ◌∷◌, ◌++◌, length, get_or, drop, refl, sym, ap, ap₂, ◌∙◌, append_assoc, append-nil}
use Rattle.std.specs.Prelude.{IsUtf8, ◌==◌, ◌||◌, ◌&&◌, if◌then◌else◌, codes}
use Rattle.std.specs.Str.{is_utf8}
use Rattle.std.specs.List.{list_any}
use Rattle.std.proofs.lemmas.Bool.{true≢false}
use Rattle.std.proofs.lemmas.Str.{IsUtf8-from_is_utf8, is_utf8-from_IsUtf8}
use Rattle.std.proofs.lemmas.List.{drop_more, drop_all}
use Rattle.dep_model.specs.Tuples.{Tuple}
use Rattle.destinations.specs.Sql.{escape_quote, escape_after, escaped_after, sql_cell, sql_cells}

-- a byte is added, and those after it are left
pub escaped-next : (bytes : List ℕ) (i d last byte : ℕ) (before after whole : List ℕ) → i < length bytes → byte ≡ get_or bytes i d
    → before ++ escaped_after last (drop i bytes) ≡ whole → after ≡ before ++ escape_after last byte
    → after ++ escaped_after byte (drop (i + 1) bytes) ≡ whole
escaped-next bytes i d last byte before after whole within is so_far added =
    ap (λ (text : List ℕ). text ++ escaped_after byte (drop (i + 1) bytes)) added
    ∙ append_assoc before (escape_after last byte) (escaped_after byte (drop (i + 1) bytes))
    ∙ ap (λ (one : ℕ). before ++ escaped_after last (one ∷ drop (i + 1) bytes)) is
    ∙ ap (λ (rest : List ℕ). before ++ escaped_after last rest) (sym (drop_more bytes i d within))
    ∙ so_far

-- no byte is left
pub escaped-all : (bytes : List ℕ) (i last : ℕ) (text whole : List ℕ) → length bytes ≤ i → text ++ escaped_after last (drop i bytes) ≡ whole → text ≡ whole
escaped-all bytes i last text whole all so_far =
    sym (append-nil text) ∙ ap (λ (rest : List ℕ). text ++ escaped_after last rest) (sym (drop_all i bytes all)) ∙ so_far

-- bytes without a single quote or CR are escaped as they are, where they do not come after CR
none_escaped_after : (bytes : List ℕ) (last : ℕ) → (last == 13) ≡ false → list_any (λ byte. byte == 39) bytes ≡ false
    → list_any (λ byte. byte == 13) bytes ≡ false → escaped_after last bytes ≡ bytes
none_escaped_after [] last other no_quote no_return = refl
none_escaped_after (first ∷ bytes) last other no_quote no_return =
    ap₂ (λ (front rest : List ℕ). front ++ rest)
    (ap (λ (b : Bool). if b && first == 10 then codes "' || '" ++ 10 ∷ [] else escape_quote first) other
    ∙ ap (λ (b : Bool). if b then 39 ∷ 39 ∷ [] else first ∷ []) (none_here (first == 39) _ no_quote))
    (none_escaped_after bytes first (none_here (first == 13) _ no_return) (none_later (first == 39) _ no_quote) (none_later (first == 13) _ no_return))
  where
    none_here : (b any : Bool) → (b || any) ≡ false → b ≡ false
    none_here true any none = none
    none_here false any none = refl

    none_later : (b any : Bool) → (b || any) ≡ false → any ≡ false
    none_later true any none = absurd (true≢false none)
    none_later false any none = none

pub none_escaped : (bytes : List ℕ) → list_any (λ byte. byte == 39) bytes ≡ false → list_any (λ byte. byte == 13) bytes ≡ false → escaped_after 0 bytes ≡ bytes
none_escaped bytes = none_escaped_after bytes 0 refl

-- what is not UTF-8 fails the test
pub utf8_not : (bytes : List ℕ) → ¬ (IsUtf8 bytes) → is_utf8 bytes ≡ false
utf8_not bytes is_not = decide (is_utf8 bytes) refl
  where
    decide : (b : Bool) → is_utf8 bytes ≡ b → b ≡ false
    decide true is = absurd (is_not (IsUtf8-from_is_utf8 bytes is))
    decide false is = refl

-- what is UTF-8 passes it
pub utf8_there : (bytes : List ℕ) → IsUtf8 bytes → is_utf8 bytes ≡ true
utf8_there = is_utf8-from_IsUtf8

-- ---- the cells of a row
pub cells_length : (nullable : List Bool) (row : Tuple) → length (sql_cells nullable row) ≡ length row
cells_length nullable [] = refl
cells_length [] (value ∷ row) = ap suc (cells_length [] row)
cells_length (flag ∷ nullable) (value ∷ row) = ap suc (cells_length nullable row)

pub cell_at : (nullable : List Bool) (row : Tuple) (i : ℕ) → i < length row
    → get_or (sql_cells nullable row) i [] ≡ sql_cell (get_or nullable i false) (get_or row i [])
cell_at nullable [] i lt = absurd (omega (arith, lt))
cell_at [] (value ∷ row) zero lt = refl
cell_at [] (value ∷ row) (suc i) lt = cell_at [] row i (omega (arith, lt))
cell_at (flag ∷ nullable) (value ∷ row) zero lt = refl
cell_at (flag ∷ nullable) (value ∷ row) (suc i) lt = cell_at nullable row i (omega (arith, lt))

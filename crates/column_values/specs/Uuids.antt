-- The texts of universally unique identifiers: for the values of columns.
use Rattle.std.specs.Prelude.{◌≡◌, ℕ, Bool, ◌&&◌, ◌||◌, nat_le, IsTrue, List, [], ◌∷◌, ◌++◌, length}
use Rattle.std.specs.List.{list_all}
use Rattle.std.specs.Char.{is_ascii_digit}

-- a digit, or a letter from `a` to `f`
abbrev pub is_hex_digit : ℕ → Bool
is_hex_digit b = is_ascii_digit b || (nat_le 97 b && nat_le b 102)

-- so many hexadecimal digits in lower case
pub record IsHexGroup (count : ℕ) (bytes : List ℕ) : Type 0 where
  pub counted : length bytes ≡ count
  pub each_digit : IsTrue (list_all is_hex_digit bytes)

-- groups of so many hexadecimal digits each, with `-` between
abbrev pub IsHexGroups : List ℕ → List ℕ → Type 0
IsHexGroups [] bytes = ⊥
IsHexGroups (count ∷ []) bytes = IsHexGroup count bytes
IsHexGroups (count ∷ next ∷ later) bytes =
    (group rest : List ℕ) × IsHexGroup count group × (bytes ≡ group ++ 45 ∷ rest) × IsHexGroups (next ∷ later) rest

-- groups of 8, 4, 4, 4 and 12 digits
abbrev pub IsUuidText : List ℕ → Type 0
IsUuidText bytes = IsHexGroups (8 ∷ 4 ∷ 4 ∷ 4 ∷ 12 ∷ []) bytes

-- The texts of integers: for the types of columns (`Columns`) and the reading of rows.
use Rattle.std.specs.Prelude.{◌≡◌, ◌≢◌, ℕ, ◌-◌, ◌^◌, ◌<◌, ◌≤◌, ◌⊎◌, IsTrue, List, [], ◌∷◌, length, slice_index}
use Rattle.std.specs.List.{list_all}
use Rattle.std.specs.Char.{is_ascii_digit}
use Rattle.std.specs.Str.Parse.{digits_value}

-- one digit from 1 to 9 and then any digits, of a value of at most this
pub record IsPositiveNumeral (most : ℕ) (bytes : List ℕ) : Type 0 where
  pub not_empty : 0 < length bytes
  pub first : slice_index bytes 0 ≢ 48
  pub digits : IsTrue (list_all is_ascii_digit bytes)
  pub value : digits_value 10 bytes ≤ most

-- an integer from -2^63 to 2^63 - 1, in the one way to write it: `0`, or an optional `-` and then a
-- numeral that does not begin with `0`
abbrev pub IsIntegerText : List ℕ → Type 0
IsIntegerText bytes =
    (bytes ≡ 48 ∷ []) ⊎ IsPositiveNumeral (2 ^ 63 - 1) bytes
    ⊎ ((digits : List ℕ) × (bytes ≡ 45 ∷ digits) × IsPositiveNumeral (2 ^ 63) digits)

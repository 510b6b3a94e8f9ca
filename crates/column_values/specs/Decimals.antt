-- The texts of decimal numbers: for the values of columns.
use Rattle.std.specs.Prelude.{◌≡◌, ◌≢◌, ℕ, zero, suc, ◌-◌, ◌^◌, ◌<◌, ◌≤◌, ◌⊎◌, List, [], ◌∷◌, ◌++◌}
use Rattle.std.specs.Fmt.{decimal}
use Rattle.schema_model.specs.declared.column_type.TheConstants.{MOST_SCALE}
use Rattle.column_values.specs.Digits.{in_digits}

-- a point and so many digits, and nothing where there are none
abbrev pub point_and_digits : ℕ → ℕ → List ℕ
point_and_digits zero fraction = []
point_and_digits (suc count) fraction = 46 ∷ in_digits (suc count) fraction

-- a whole number of at most so many digits
pub record IsWhole (most : ℕ) (bytes : List ℕ) : Type 0 where
  pub number : ℕ
  pub fits : number < 10 ^ most
  pub text : bytes ≡ decimal number

-- a whole number and a fraction of so many digits
abbrev pub decimal_text : ℕ → ℕ → ℕ → List ℕ
decimal_text scale whole fraction = decimal whole ++ point_and_digits scale fraction

-- a decimal number of this scale without a sign: at most 15 digits in all
pub record IsUnsignedDecimal (scale : ℕ) (bytes : List ℕ) : Type 0 where
  pub whole : ℕ
  pub fraction : ℕ
  pub scale_within_limit : scale ≤ MOST_SCALE
  pub whole_within_limit : whole < 10 ^ (15 - scale)
  pub fraction_digits : fraction < 10 ^ scale
  pub text : bytes ≡ decimal_text scale whole fraction

-- such a number, or `-` and such a number that is not zero
abbrev pub IsDecimalText : ℕ → List ℕ → Type 0
IsDecimalText scale bytes =
    IsUnsignedDecimal scale bytes
    ⊎ ((rest : List ℕ) × (bytes ≡ 45 ∷ rest) × IsUnsignedDecimal scale rest × (rest ≢ decimal_text scale 0 0))

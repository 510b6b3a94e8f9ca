-- Numbers in a fixed count of decimal digits: for dates, times, fractions and made-up identifiers.
use Rattle.std.specs.Prelude.{ℕ, zero, suc, ◌+◌, ◌/◌, ◌%◌, List, [], ◌∷◌, ◌++◌}
use Rattle.std.specs.List.{join_with_byte}

-- the last so many decimal digits of a number, with zeros before them where it has fewer
unfoldable pub in_digits : ℕ → ℕ → List ℕ
in_digits zero number = []
in_digits (suc count) number = in_digits count (number / 10) ++ (48 + number % 10) ∷ []

-- three numbers, the first in so many digits and the others in two, with a separator between
abbrev pub three_in_digits : ℕ → ℕ → ℕ → ℕ → ℕ → List ℕ
three_in_digits separator count first second third =
    join_with_byte separator (in_digits count first ∷ in_digits 2 second ∷ in_digits 2 third ∷ [])

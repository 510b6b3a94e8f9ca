-- What stands in a column of a row, and what an engine makes of it: for values and queries.
use Rattle.std.specs.Prelude.{ℕ, ℤ, pos, negsuc, ◌+ℤ◌, ◌-ℤ◌, ◌*ℤ◌, suc, Bool, true, false, not, if◌then◌else◌, Option, Some, None, List, [], ◌∷◌, ◌++◌, option_map, option_and_then}
use Rattle.std.specs.Fmt.{decimal}
use Rattle.std.specs.Cmp.Lexicographic.{pointwise}
use Rattle.std.specs.Ordering.{int_eq}
use Rattle.std.specs.Int.Signed.{lt_z}
use Rattle.std.specs.Str.{bytes_eq}

-- a missing value, a text or an integer
pub data Cell : Type 0 where
  missing : Cell
  text : List ℕ → Cell
  number : ℤ → Cell

-- whether two are the same for DISTINCT and GROUP BY: a missing value is like itself
abbrev pub same_cell : Cell → Cell → Bool
same_cell missing missing = true
same_cell (text a) (text b) = bytes_eq a b
same_cell (number m) (number n) = int_eq m n
same_cell a b = false

abbrev pub same_row : List Cell → List Cell → Bool
same_row = pointwise same_cell

-- ---- casts
abbrev pub integer_text : ℤ → List ℕ
integer_text (pos n) = decimal n
integer_text (negsuc n) = 45 ∷ decimal (suc n)

abbrev pub text_of : Cell → Cell
text_of missing = missing
text_of (text t) = text t
text_of (number n) = text (integer_text n)

-- a text after that of a value
abbrev pub followed_by : List ℕ → Cell → Cell
followed_by more missing = missing
followed_by more (text t) = text (t ++ more)
followed_by more (number n) = text (integer_text n ++ more)

-- what an engine makes of a text that is to be an integer: an error, or an integer
abbrev pub integer_of : (List ℕ → Option ℤ) → Cell → Option Cell
integer_of cast missing = Some missing
integer_of cast (text t) = option_map number (cast t)
integer_of cast (number n) = Some (number n)

-- ---- arithmetic, which is missing where a part of it is; of a text it is an error
abbrev pub added : Cell → Cell → Option Cell
added (number m) (number n) = Some (number (m +ℤ n))
added (number m) missing = Some (number m)
added missing (number n) = Some (number n)
added missing missing = Some missing
added a b = None

-- the sum of values, of which those that are missing do not count
abbrev pub total : List Cell → Option Cell
total [] = Some missing
total (c ∷ cs) = option_and_then (added c) (total cs)

-- the greater of two values; which of two texts is greater is the engine's own, so of a text it is an
-- error
abbrev pub greater : Cell → Cell → Option Cell
greater (number m) (number n) = Some (number (if lt_z m n then n else m))
greater (number m) missing = Some (number m)
greater missing (number n) = Some (number n)
greater missing missing = Some missing
greater a b = None

-- the greatest of values, of which those that are missing do not count
abbrev pub greatest_of : List Cell → Option Cell
greatest_of [] = Some missing
greatest_of (c ∷ cs) = option_and_then (greater c) (greatest_of cs)

abbrev pub multiplied : Cell → Cell → Option Cell
multiplied (number m) (number n) = Some (number (m *ℤ n))
multiplied (number m) missing = Some missing
multiplied missing (number n) = Some missing
multiplied missing missing = Some missing
multiplied a b = None

abbrev pub subtracted : Cell → Cell → Option Cell
subtracted (number m) (number n) = Some (number (m -ℤ n))
subtracted (number m) missing = Some missing
subtracted missing (number n) = Some missing
subtracted missing missing = Some missing
subtracted a b = None

-- ---- tests: whether one is true. What is unknown, since a value is missing, is not true
abbrev pub differ : Cell → Cell → Option Bool
differ missing b = Some false
differ a missing = Some false
differ (text a) (text b) = Some (not (bytes_eq a b))
differ (number m) (number n) = Some (not (int_eq m n))
differ a b = None

abbrev pub equal : Cell → Cell → Option Bool
equal missing b = Some false
equal a missing = Some false
equal (text a) (text b) = Some (bytes_eq a b)
equal (number m) (number n) = Some (int_eq m n)
equal a b = None

abbrev pub exceed : Cell → Cell → Option Bool
exceed missing b = Some false
exceed a missing = Some false
exceed (number m) (number n) = Some (lt_z n m)
exceed a b = None

abbrev pub is_none : Cell → Bool
is_none missing = true
is_none a = false

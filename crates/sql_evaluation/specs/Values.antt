-- The values and tests of a row or a group: for queries.
use Rattle.std.specs.Prelude.{ℕ, ℤ, pos, Bool, not, ◌&&◌, ◌||◌, if◌then◌else◌, Option, Some, None, List, [], ◌∷◌, length, option_map, option_and_then}
use Rattle.std.specs.Str.{bytes_eq}
use Rattle.sql_syntax.specs.Syntax.{ColumnName, attribute, helper, Column, Scalar, column, as_text, as_integer, with_empty_text, number_zero, number_one, written_number, missing_value, count, sum, greatest, sum_product, less_sum, Condition, is_missing, is_present, differs, equals, exceeds, either, both}
use Rattle.sql_evaluation.specs.Cells.{Cell, missing, number, text_of, followed_by, integer_of, total, greatest_of, multiplied, subtracted, differ, equal, exceed, is_none}

-- ---- errors
-- a function of each member; an error where it is one at some
abbrev pub each : {X Y : Type 0} → (X → Option Y) → List X → Option (List Y)
each f [] = Some []
each f (x ∷ xs) = option_and_then (λ y. option_map (λ ys. y ∷ ys) (each f xs)) (f x)

-- a function of two values, neither of which is an error
abbrev pub of_both : {X Y Z : Type 0} → (X → Y → Option Z) → Option X → Option Y → Option Z
of_both f a b = option_and_then (λ x. option_and_then (f x) b) a

-- ---- columns
abbrev pub bytes_of : ColumnName → List ℕ
bytes_of (attribute name) = name
bytes_of (helper name) = name

-- the value of a column by its name; an error where no column has it
abbrev pub named_cell : List (List ℕ) → List Cell → List ℕ → Option Cell
named_cell [] cells name = None
named_cell (n ∷ names) [] name = None
named_cell (n ∷ names) (c ∷ cells) name = if bytes_eq n name then Some c else named_cell names cells name

-- the columns of a row of a source under an alias, whose columns have these names
abbrev pub Look : Type 0
Look = Column → Option Cell

abbrev pub look_at : List ℕ → List (List ℕ) → List Cell → Look
look_at alias names row c =
    if bytes_eq alias c.alias then named_cell names row (bytes_of c.name) else None

-- ---- values
-- a row, or a group with its rows: what its columns have, and those of each of its rows
pub record View : Type 0 where
  pub own : Look
  pub rows : Option (List Look)

abbrev pub sum_of : View → Column → Option Cell
sum_of v c = option_and_then total (option_and_then (each (λ look. look c)) v.rows)

abbrev pub maximum_of : View → Column → Option Cell
maximum_of v c = option_and_then greatest_of (option_and_then (each (λ look. look c)) v.rows)

abbrev pub value : (List ℕ → Option ℤ) → View → Scalar → Option Cell
value cast v (column c) = v.own c
value cast v (as_text x) = option_map text_of (value cast v x)
value cast v (as_integer x) = option_and_then (integer_of cast) (value cast v x)
value cast v (with_empty_text x) = option_map (followed_by []) (value cast v x)
value cast v number_zero = Some (number (pos 0))
value cast v number_one = Some (number (pos 1))
value cast v (written_number n) = Some (number (pos n))
value cast v missing_value = Some missing
value cast v count = option_map (λ rows. number (pos (length rows))) v.rows
value cast v (sum c) = sum_of v c
value cast v (greatest c) = maximum_of v c
value cast v (sum_product c d) = of_both multiplied (sum_of v c) (sum_of v d)
value cast v (less_sum x c) = of_both subtracted (value cast v x) (sum_of v c)

-- ---- tests
abbrev pub holds : (List ℕ → Option ℤ) → View → Condition → Option Bool
holds cast v (is_missing x) = option_map is_none (value cast v x)
holds cast v (is_present x) = option_map (λ c. not (is_none c)) (value cast v x)
holds cast v (differs x y) = of_both differ (value cast v x) (value cast v y)
holds cast v (equals x y) = of_both equal (value cast v x) (value cast v y)
holds cast v (exceeds x y) = of_both exceed (value cast v x) (value cast v y)
holds cast v (either p q) = of_both (λ a b. Some (a || b)) (holds cast v p) (holds cast v q)
holds cast v (both p q) = of_both (λ a b. Some (a && b)) (holds cast v p) (holds cast v q)

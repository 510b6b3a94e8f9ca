-- Rows beside rows: for the joins of queries.
use Rattle.std.specs.Prelude.{ℕ, Bool, true, not, ◌&&◌, if◌then◌else◌, Option, Some, List, [], ◌∷◌, ◌++◌, map, filter}
use Rattle.std.specs.List.{list_any}
use Rattle.std.specs.Str.{bytes_eq}
use Rattle.sql_evaluation.specs.Cells.{Cell, missing, equal}
use Rattle.sql_evaluation.specs.Values.{of_both, named_cell}

-- whether a name is one of these
abbrev pub is_name_of : List (List ℕ) → List ℕ → Bool
is_name_of names name = list_any (bytes_eq name) names

-- whether two rows have equal values in the columns of these names, of which both have each
abbrev pub agree_by : List (List ℕ) → List (List ℕ) → List (List ℕ) → List Cell → List Cell → Option Bool
agree_by [] names others row other = Some true
agree_by (name ∷ by) names others row other =
    of_both (λ a b. Some (a && b)) (of_both equal (named_cell names row name) (named_cell others other name))
    (agree_by by names others row other)

-- the values of a row in the columns of other names
abbrev pub cells_beside : List (List ℕ) → List (List ℕ) → List Cell → List Cell
cells_beside by [] cells = []
cells_beside by (name ∷ names) [] = []
cells_beside by (name ∷ names) (c ∷ cells) =
    if is_name_of by name then cells_beside by names cells else c ∷ cells_beside by names cells

-- a row beside each of these that agrees with it
abbrev pub row_joined : List (List ℕ) → List (List ℕ) → List (List ℕ) → List Cell → List (List Cell)
    → Option (List (List Cell))
row_joined by names others row [] = Some []
row_joined by names others row (other ∷ rest) =
    of_both (λ agree more. Some (if agree then (row ++ cells_beside by others other) ∷ more else more))
    (agree_by by names others row other) (row_joined by names others row rest)

abbrev pub rows_joined : List (List ℕ) → List (List ℕ) → List (List ℕ) → List (List Cell) → List (List Cell)
    → Option (List (List Cell))
rows_joined by names others [] more = Some []
rows_joined by names others (row ∷ rows) more =
    of_both (λ here rest. Some (here ++ rest)) (row_joined by names others row more)
    (rows_joined by names others rows more)

-- ---- rows that stay where none agrees with them
-- missing values in the columns of other names
abbrev pub missing_beside : List (List ℕ) → List (List ℕ) → List Cell
missing_beside by names = map (λ name. missing) (filter (λ name. not (is_name_of by name)) names)

-- what comes of a row, or where nothing does the row alone
abbrev pub or_alone : List (List ℕ) → List (List ℕ) → List Cell → List (List Cell) → List (List Cell)
or_alone by others row [] = (row ++ missing_beside by others) ∷ []
or_alone by others row (first ∷ found) = first ∷ found

abbrev pub rows_left_joined : List (List ℕ) → List (List ℕ) → List (List ℕ) → List (List Cell) → List (List Cell)
    → Option (List (List Cell))
rows_left_joined by names others [] more = Some []
rows_left_joined by names others (row ∷ rows) more =
    of_both (λ here rest. Some (or_alone by others row here ++ rest)) (row_joined by names others row more)
    (rows_left_joined by names others rows more)

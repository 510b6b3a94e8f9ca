-- Rows at lists of columns, and missing values: for inclusion dependencies (`References`) and rows
-- without a match (`Matches`).
use Rattle.std.specs.Prelude.{◌≡◌, ℕ, Bool, true, List, [], length, map, nat_lt, slice_index_or, Contains}
use Rattle.std.specs.List.{list_all}
use Rattle.dep_model.specs.Tuples.{Tuple, Relation, value_at}
use Rattle.headed_rows.specs.Headings.{HeadedRows}

-- the values of a row at columns, in their order
abbrev pub values_on : List ℕ → Tuple → Tuple
values_on columns t = map (value_at t) columns

-- whether a value is there: it is missing where it is the empty text
abbrev pub is_there : List ℕ → Bool
is_there value = nat_lt 0 (length value)

-- whether a row misses none of its values at columns
abbrev pub misses_none : List ℕ → Tuple → Bool
misses_none columns t = list_all is_there (values_on columns t)

-- whether it misses no value at all
abbrev pub misses_nothing : Tuple → Bool
misses_nothing t = list_all is_there t

-- some row of a relation misses none of them
abbrev pub HasWholeRow : Relation → List ℕ → Type 0
HasWholeRow r columns = (t : Tuple) × Contains r t × (misses_none columns t ≡ true)

-- some row of a relation has these values at columns
abbrev pub HasMatch : Relation → List ℕ → Tuple → Type 0
HasMatch r columns values = (t : Tuple) × Contains r t × (values_on columns t ≡ values)

-- and this value at a column
abbrev pub HasValue : Relation → ℕ → List ℕ → Type 0
HasValue r column value = (t : Tuple) × Contains r t × (value_at t column ≡ value)

-- no file
abbrev pub no_file : HeadedRows
no_file = record { names = []; rows = [] }

-- the file at a position
abbrev pub file_at : List HeadedRows → ℕ → HeadedRows
file_at files i = slice_index_or files i no_file

-- the name of a column
abbrev pub name_at : List (List ℕ) → ℕ → List ℕ
name_at names k = slice_index_or names k []

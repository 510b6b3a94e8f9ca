-- The rows of a file whose values have no match in another: for `rows_without_match`, and for the
-- command that lists them (`desk_references/Checks`).
use Rattle.std.specs.Prelude.{ℕ, Bool, ◌&&◌, not, List, length, map}
use Rattle.std.specs.List.{list_any}
use Rattle.dep_model.specs.Projections.{members_below}
use Rattle.dep_model.specs.Tuples.{Tuple, Relation, distinct_tuples, same_tuple}
use Rattle.row_store.specs.Rows.{row_at}
use Rattle.file_references.specs.Columns.{misses_none, values_on}

-- whether some row has these values at columns
abbrev pub has_match : Relation → List ℕ → Tuple → Bool
has_match s k values = list_any (λ u. same_tuple (values_on k u) values) s

-- whether a row misses none of its values at x, and no row of s has them at k
abbrev pub is_unmatched : List ℕ → Relation → List ℕ → Tuple → Bool
is_unmatched x s k t = misses_none x t && not (has_match s k (values_on x t))

-- the positions of such rows among the first n, ascending
abbrev pub unmatched_below : Relation → List ℕ → Relation → List ℕ → ℕ → List ℕ
unmatched_below r x s k n = members_below n (λ i. is_unmatched x s k (row_at r i))

-- and among all
abbrev pub unmatched_rows : Relation → List ℕ → Relation → List ℕ → List ℕ
unmatched_rows r x s k = unmatched_below r x s k (length r)

-- the values of the rows at these positions
abbrev pub values_of_rows : Relation → List ℕ → List ℕ → Relation
values_of_rows r x rows = map (λ i. values_on x (row_at r i)) rows

-- the same, each list of values once, in the order of the first rows
abbrev pub distinct_values : Relation → List ℕ → List ℕ → Relation
distinct_values r x rows = distinct_tuples (values_of_rows r x rows)

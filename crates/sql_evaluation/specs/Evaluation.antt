-- What a query gives over the tables of an engine: for the laws of queries.
use Rattle.std.specs.Prelude.{ℕ, ℤ, Bool, false, not, ◌&&◌, ◌==◌, if◌then◌else◌, Option, Some, None, List, [], ◌∷◌, ◌++◌, length, map, filter, option_map, option_and_then}
use Rattle.std.specs.List.{list_any}
use Rattle.std.specs.Set.{unique_keys}
use Rattle.std.specs.Str.{bytes_eq}
use Rattle.sql_syntax.specs.Syntax.{Column, Scalar, column, Condition, Item, own, named, unnamed, Clause, each_row, rows_where, group_where, groups_by, Link, by_columns, left_by_columns, crosswise, Query, stored, select, union_all, except, joined, all_columns, one_row}
use Rattle.sql_evaluation.specs.Cells.{Cell, same_row}
use Rattle.sql_evaluation.specs.Values.{each, bytes_of, named_cell, Look, look_at, View, value, holds}
use Rattle.sql_evaluation.specs.Joins.{is_name_of, rows_joined, rows_left_joined}

-- rows with named columns, whose order means nothing
pub record Rows : Type 0 where
  pub names : List (List ℕ)
  pub rows : List (List Cell)

-- an engine: the tables that it holds, and what it makes of a text that is cast to an integer
pub record Engine : Type 0 where
  pub tables : List ℕ → Option Rows
  pub cast : List ℕ → Option ℤ

-- ---- which rows or groups
-- those of which a test is true
abbrev pub taken : {X : Type 0} → (X → Option Bool) → List X → Option (List X)
taken test [] = Some []
taken test (x ∷ xs) = option_and_then (λ b. option_map (λ rest. if b then x ∷ rest else rest) (taken test xs)) (test x)

abbrev pub row_view : Look → View
row_view look = record { own = look; rows = None }

-- a column by which is grouped
abbrev pub same_column : Column → Column → Bool
same_column c d = bytes_eq c.alias d.alias && bytes_eq (bytes_of c.name) (bytes_of d.name)

abbrev pub key_cell : List Column → List Cell → Look
key_cell [] cells d = None
key_cell (c ∷ cs) [] d = None
key_cell (c ∷ cs) (v ∷ vs) d = if same_column c d then Some v else key_cell cs vs d

-- whether a row has these values in the columns by which is grouped
abbrev pub is_key : List Cell → Option (List Cell) → Bool
is_key key None = false
is_key key (Some other) = same_row other key

abbrev pub in_group : List Column → List Cell → Look → Bool
in_group columns key look = is_key key (each look columns)

abbrev pub group_view : List Column → List Look → List Cell → View
group_view columns looks key = record {
  own = key_cell columns key;
  rows = Some (filter (in_group columns key) looks);
}

-- rows as one group
abbrev pub one_group : List Look → View
one_group looks = record { own = key_cell [] []; rows = Some looks }

-- the groups by columns; by no column all rows are one
abbrev pub group_views : List Column → List Look → Option (List View)
group_views [] looks = Some (one_group looks ∷ [])
group_views (c ∷ cs) looks =
    option_map (λ keys. map (group_view (c ∷ cs) looks) (unique_keys same_row keys))
    (each (λ look. each look (c ∷ cs)) looks)

abbrev pub having_true : (List ℕ → Option ℤ) → Option Condition → List View → Option (List View)
having_true cast None views = Some views
having_true cast (Some p) views = taken (λ v. holds cast v p) views

abbrev pub views_of : (List ℕ → Option ℤ) → Clause → List Look → Option (List View)
views_of cast each_row looks = Some (map row_view looks)
views_of cast (rows_where p) looks = taken (λ v. holds cast v p) (map row_view looks)
views_of cast (group_where p) looks =
    option_map (λ rows. one_group rows ∷ []) (taken (λ look. holds cast (row_view look) p) looks)
views_of cast (groups_by columns having) looks =
    option_and_then (having_true cast having) (group_views columns looks)

-- ---- what is selected
abbrev pub item_name : Item → List ℕ
item_name (own c) = bytes_of c.name
item_name (named x name) = bytes_of name
item_name (unnamed x) = []

abbrev pub item_value : (List ℕ → Option ℤ) → View → Item → Option Cell
item_value cast v (own c) = value cast v (column c)
item_value cast v (named x name) = value cast v x
item_value cast v (unnamed x) = value cast v x

abbrev pub with_items : Bool → List Item → List (List Cell) → Rows
with_items distinct items rows = record {
  names = map item_name items;
  rows = if distinct then unique_keys same_row rows else rows;
}

abbrev pub selected : (List ℕ → Option ℤ) → Bool → List Item → List ℕ → Clause → Rows → Option Rows
selected cast distinct items alias clause given =
    option_map (with_items distinct items)
    (option_and_then (each (λ v. each (item_value cast v) items))
    (views_of cast clause (map (look_at alias given.names) given.rows)))

-- ---- queries
-- a row of values, which have no names and rest on no column
abbrev pub no_view : View
no_view = record { own = λ c. None; rows = None }

abbrev pub row_of_values : (List ℕ → Option ℤ) → List Scalar → Option Rows
row_of_values cast values =
    option_map (λ row. record { names = map (λ x. []) values; rows = row ∷ [] }) (each (value cast no_view) values)

-- one after the other, under the names of the first, where they have as many columns
abbrev pub appended : Rows → Rows → Option Rows
appended a b =
    if length a.names == length b.names then Some (record { names = a.names; rows = a.rows ++ b.rows }) else None

-- those of the first that the second has not, each once, where they have as many columns
abbrev pub is_among : List (List Cell) → List Cell → Bool
is_among rows row = list_any (same_row row) rows

abbrev pub without : List (List Cell) → List (List Cell) → List (List Cell)
without rows others = unique_keys same_row (filter (λ row. not (is_among others row)) rows)

abbrev pub excepted : Rows → Rows → Option Rows
excepted a b =
    if length a.names == length b.names then Some (record { names = a.names; rows = without a.rows b.rows }) else None

-- two tables, joined by the columns of these names, which stand once in the result
abbrev pub joined_by : List (List ℕ) → Rows → Rows → Option Rows
joined_by by a b =
    option_map (λ rows. record { names = a.names ++ filter (λ name. not (is_name_of by name)) b.names; rows = rows })
    (rows_joined by a.names b.names a.rows b.rows)

-- the same, where a row of the first with which none of the second agrees stays, and misses the values of the other columns
abbrev pub left_joined_by : List (List ℕ) → Rows → Rows → Option Rows
left_joined_by by a b =
    option_map (λ rows. record { names = a.names ++ filter (λ name. not (is_name_of by name)) b.names; rows = rows })
    (rows_left_joined by a.names b.names a.rows b.rows)

-- the columns of these names
abbrev pub columns_of : List (List ℕ) → Rows → Option Rows
columns_of names a =
    option_map (λ rows. record { names = names; rows = rows })
    (each (λ row. each (named_cell a.names row) names) a.rows)

-- a table that is joined to what stands before it
abbrev pub linked : Engine → Rows → Link → Option Rows
linked e a (by_columns name columns) = option_and_then (joined_by (map bytes_of columns) a) (e.tables name)
linked e a (left_by_columns name columns) = option_and_then (left_joined_by (map bytes_of columns) a) (e.tables name)
linked e a (crosswise name) = option_and_then (joined_by [] a) (e.tables name)

abbrev pub all_linked : Engine → List Link → Rows → Option Rows
all_linked e [] a = Some a
all_linked e (l ∷ links) a = option_and_then (all_linked e links) (linked e a l)

abbrev pub evaluate : Engine → Query → Option Rows
evaluate e (stored name) = e.tables name
evaluate e (select distinct items source alias clause) =
    option_and_then (selected e.cast distinct items alias clause) (evaluate e source)
evaluate e (union_all p q) = option_and_then (λ a. option_and_then (appended a) (evaluate e q)) (evaluate e p)
evaluate e (except p q) = option_and_then (λ a. option_and_then (excepted a) (evaluate e q)) (evaluate e p)
evaluate e (joined names first links) =
    option_and_then (columns_of (map bytes_of names)) (option_and_then (all_linked e links) (e.tables first))
evaluate e (all_columns source alias) = evaluate e source
evaluate e (one_row values) = row_of_values e.cast values

-- The queries of `sql measure` over a table, as values of SQL's syntax: for the laws of what they
-- give, and for the script (`sql_scripts`).
use Rattle.std.specs.Prelude.{ℕ, false, if◌then◌else◌, Option, Some, None, List, [], ◌∷◌, ◌++◌, map, codes, option_and_then}
use Rattle.attr_sets.specs.Attributes.{Attributes, union}
use Rattle.schema_model.specs.Schemas.{Schema}
use Rattle.dep_model.specs.Projections.{members_below}
use Rattle.schema_model.specs.Schemas.{width_of}
use Rattle.dep_model.specs.Dependencies.{Dependency}
use Rattle.relation_queries.specs.Queries.{several, unpaired, breaches_of}
use Rattle.relation_queries.specs.Queries as terms
use Rattle.sql_syntax.specs.Syntax.{attribute, helper, Column, Scalar, column, number_zero, number_one, count, sum, greatest, sum_product, less_sum, Condition, differs, exceeds, Item, own, named, each_row, rows_where, group_where, groups_by, Query, stored, select, union_all}
use Rattle.sql_check.specs.Columns.{columns_on, compared_on, group_name, groups_made}
use Rattle.sql_check.specs.Checks.{has_members, values_query}

-- ---- columns
-- a column that a query makes for itself, of a source under an alias
abbrev pub made_column : List ℕ → List ℕ → Column
made_column alias name = record { alias = alias; name = helper name }

-- a number that is shown; its name may be a word of SQL, so it stands in quotes
abbrev pub shown_column : List ℕ → Column
shown_column name = record { alias = codes "h"; name = attribute name }

-- the attributes of x by the names under which is counted, of a source under an alias
abbrev pub keys_on : Schema → List ℕ → Attributes → List Column
keys_on s alias x =
    map (λ k. record { alias = alias; name = group_name x k }) (members_below (width_of s) x)

-- ---- rows
-- the values on a set, as often as they stand
unfoldable pub rows_query : Schema → List ℕ → Attributes → Query
rows_query s table w = select false (compared_on s w) (stored table) (codes "r") each_row

-- a number for each row
unfoldable pub marks_query : List ℕ → Query
marks_query table =
    select false (named number_zero (helper (codes "n")) ∷ []) (stored table) (codes "r") each_row

-- one of the two, by whether a set has an attribute
abbrev pub counted_rows : Schema → List ℕ → Attributes → Query
counted_rows s table x = if has_members s x then rows_query s table x else marks_query table

-- ---- what is shown
-- of the groups that pass a test how many they are, the sum of their rows, and an amount under a
-- name; no row where there are none
unfoldable pub totals_query : Column → Scalar → List ℕ → Condition → Query → Query
totals_query rows amount name test groups =
    select false
    (own (shown_column (codes "groups")) ∷ own (shown_column (codes "rows")) ∷ own (shown_column name) ∷ [])
    (select false
    (named count (attribute (codes "groups")) ∷ named (sum rows) (attribute (codes "rows"))
    ∷ named amount (attribute name) ∷ [])
    groups (codes "g") (group_where test))
    (codes "h") (rows_where (exceeds (column (shown_column (codes "groups"))) number_zero))

-- ---- functional dependencies
-- for each value on w how often it stands, beside what it has on x
unfoldable pub classes_query : Schema → List ℕ → Attributes → Attributes → Query
classes_query s table x w =
    select false (groups_made s x ++ named count (helper (codes "n")) ∷ []) (rows_query s table w)
    (codes "d") (groups_by (columns_on s (codes "d") w) None)

abbrev pub class_count : Column
class_count = made_column (codes "c") (codes "n")

-- for each value on x how many rows have it, how many of these are alike on w at most, and how many
-- values on w stand beside it
unfoldable pub groups_query : Schema → List ℕ → Attributes → Attributes → Query
groups_query s table x w =
    select false
    (named (sum class_count) (helper (codes "n")) ∷ named (greatest class_count) (helper (codes "m"))
    ∷ named count (helper (codes "k")) ∷ [])
    (classes_query s table x w) (codes "c") (groups_by (keys_on s (codes "c") x) None)

abbrev pub group_count : List ℕ → Column
group_count name = made_column (codes "g") name

-- of the values on x beside which more than one on w stands how many they are, their rows, and the
-- rows that are not in the largest class of theirs
abbrev pub change_query : Schema → List ℕ → Attributes → Attributes → Query
change_query s table x w =
    totals_query (group_count (codes "n"))
    (less_sum (sum (group_count (codes "n"))) (group_count (codes "m"))) (codes "change")
    (exceeds (column (group_count (codes "k"))) number_one) (groups_query s table x w)

-- ---- multivalued dependencies
abbrev pub counts_named : Scalar → Scalar → Scalar → Scalar → List Item
counts_named y z n r =
    named y (helper (codes "y")) ∷ named z (helper (codes "z")) ∷ named n (helper (codes "n"))
    ∷ named r (helper (codes "r")) ∷ []

-- a count in one of four columns
abbrev pub first_of_four : List Item
first_of_four = counts_named count number_zero number_zero number_zero

abbrev pub second_of_four : List Item
second_of_four = counts_named number_zero count number_zero number_zero

abbrev pub third_of_four : List Item
third_of_four = counts_named number_zero number_zero count number_zero

abbrev pub fourth_of_four : List Item
fourth_of_four = counts_named number_zero number_zero number_zero count

-- for each value on x these counts of the rows of a source that have it
unfoldable pub counts_query : Schema → Attributes → Query → List Item → Query
counts_query s x source counts =
    select false (groups_made s x ++ counts) source (codes "d")
    (groups_by (columns_on s (codes "d") x) None)

-- for each value on x four rows: the counts of values on xy, on xz and on all three, and of rows
unfoldable pub four_counts : Schema → List ℕ → Attributes → Attributes → Attributes → Query
four_counts s table x y z =
    union_all
    (union_all
    (union_all (counts_query s x (values_query s table (union x y)) first_of_four)
    (counts_query s x (values_query s table (union x z)) second_of_four))
    (counts_query s x (values_query s table (union x (union y z))) third_of_four))
    (counts_query s x (counted_rows s table x) fourth_of_four)

abbrev pub sum_column : List ℕ → Column
sum_column name = made_column (codes "e") name

-- for each value on x how many rows have it, and how many pairs of a value on xy and one on xz beside
-- it no row has
unfoldable pub pairs_query : Schema → List ℕ → Attributes → Attributes → Attributes → Query
pairs_query s table x y z =
    select false
    (named (sum (sum_column (codes "r"))) (helper (codes "r"))
    ∷ named (less_sum (sum_product (sum_column (codes "y")) (sum_column (codes "z"))) (sum_column (codes "n")))
    (helper (codes "m")) ∷ [])
    (four_counts s table x y z) (codes "e") (groups_by (keys_on s (codes "e") x) None)

-- of the values on x beside which such a pair is missing how many they are, their rows, and these
-- pairs
abbrev pub lack_query : Schema → List ℕ → Attributes → Attributes → Attributes → Query
lack_query s table x y z =
    totals_query (group_count (codes "r")) (sum (group_count (codes "m"))) (codes "missing")
    (differs (column (group_count (codes "m"))) number_zero) (pairs_query s table x y z)

-- ---- terms
-- the query that counts what a term gives that breaks a dependency; the other terms are of plans
abbrev pub query_of : Schema → List ℕ → terms.TableQuery → Option Query
query_of s table (several x w) = Some (change_query s table x w)
query_of s table (unpaired x y z) = Some (lack_query s table x y z)
query_of s table term = None

-- the query that counts what breaks a dependency; none where every relation obeys it
abbrev pub measure_query : Schema → List ℕ → Dependency → Option Query
measure_query s table d = option_and_then (query_of s table) (breaches_of (width_of s) d)

-- The queries of `sql check` over a table, as values of SQL's syntax: for the laws of what they give, and
-- for the script (`sql_scripts`).
use Rattle.std.specs.List.{zip}
use Rattle.std.specs.Prelude.{ℕ, Bool, true, false, if◌then◌else◌, Option, Some, None, List, [], ◌∷◌, ◌++◌, codes, option_and_then}
use Rattle.attr_sets.specs.Attributes.{Attributes, union, difference}
use Rattle.schema_model.specs.Schemas.{Schema}
use Rattle.dep_model.specs.Projections.{members_below}
use Rattle.schema_model.specs.Schemas.{width_of, universe_of, nullable_of, lines_of, theory_of}
use Rattle.sql_syntax.specs.Names.{is_not_empty}
use Rattle.sql_syntax.specs.Syntax.{ColumnName, helper, Column, Scalar, column, as_text, as_integer, number_zero, number_one, written_number, count, sum_product, less_sum, sum, Condition, is_missing, differs, exceeds, either, Item, own, named, each_row, rows_where, groups_by, Query, stored, select, union_all}
use Rattle.dep_model.specs.Dependencies.{Dependency}
use Rattle.relation_queries.specs.Queries.{several, unpaired, breaches_of}
use Rattle.relation_queries.specs.Queries as terms
use Rattle.sql_check.specs.Columns.{column_at, columns_on, items_on, compared_on, groups_made, groups_on, groups_shown}

-- whether a set has an attribute of a schema
abbrev pub has_members : Schema → Attributes → Bool
has_members s x = is_not_empty (members_below (width_of s) x)

-- ---- values
-- the attributes of which no value may be missing
abbrev pub required_of : Schema → Attributes
required_of s = difference (universe_of s) (nullable_of s)

-- whether the value of one of these attributes is missing, the first of which is k
abbrev pub some_missing : Schema → ℕ → List ℕ → Condition
some_missing s k [] = is_missing (column (column_at s (codes "r") k))
some_missing s k (m ∷ ms) =
    either (is_missing (column (column_at s (codes "r") k))) (some_missing s m ms)

-- the rows in which a value of these attributes is missing, the first of which is k
unfoldable pub missing_query : Schema → List ℕ → ℕ → List ℕ → Query
missing_query s table k ms =
    select false (items_on s (codes "r") (universe_of s)) (stored table) (codes "r")
    (rows_where (some_missing s k ms))

-- the same of the attributes of a list; none where it is empty
abbrev pub missing_among : Schema → List ℕ → List ℕ → Option Query
missing_among s table [] = None
missing_among s table (k ∷ ms) = Some (missing_query s table k ms)

-- the rows in which a value is missing that may not be
abbrev pub required_query : Schema → List ℕ → Option Query
required_query s table = missing_among s table (members_below (width_of s) (required_of s))

-- the values of a column that are not the text of the integer that they are cast to
unfoldable pub integer_query : List ℕ → Column → Query
integer_query table c =
    select false (own c ∷ []) (stored table) (codes "r")
    (rows_where (differs (as_text (as_integer (column c))) (as_text (column c))))

-- ---- dependencies
-- the dependencies of a schema after their lines, in the order of the file
abbrev pub rules_of : Schema → List (ℕ × Dependency)
rules_of s = zip (lines_of s) (theory_of s)

-- the values on a set, each once
unfoldable pub values_query : Schema → List ℕ → Attributes → Query
values_query s table w = select true (compared_on s w) (stored table) (codes "r") each_row

-- a count under a name of its own
abbrev pub count_name : ColumnName
count_name = helper (codes "n")

abbrev pub count_column : Column
count_column = record { alias = codes "c"; name = count_name }

-- the line of a dependency, with which its query begins
abbrev pub line_item : ℕ → Item
line_item line = named (written_number line) (helper (codes "line"))

-- the values on x beside which more than one on w stands; where x is empty, the count of those on w
unfoldable pub groups_of_several : Schema → List ℕ → ℕ → Attributes → Attributes → Query
groups_of_several s table line x w =
    select false (line_item line ∷ items_on s (codes "d") x) (values_query s table w) (codes "d")
    (groups_by (columns_on s (codes "d") x) (Some (exceeds count number_one)))

unfoldable pub count_of_several : Schema → List ℕ → ℕ → Attributes → Query
count_of_several s table line w =
    select false (line_item line ∷ own count_column ∷ [])
    (select false (named count count_name ∷ []) (values_query s table w) (codes "d") (groups_by [] None))
    (codes "c") (rows_where (exceeds (column count_column) number_one))

abbrev pub several_query : Schema → List ℕ → ℕ → Attributes → Attributes → Query
several_query s table line x w =
    if has_members s x then groups_of_several s table line x w else count_of_several s table line w

-- ---- three counts
abbrev pub counts_named : Scalar → Scalar → Scalar → List Item
counts_named y z n =
    named y (helper (codes "y")) ∷ named z (helper (codes "z")) ∷ named n (helper (codes "n")) ∷ []

-- a count in one of three columns
abbrev pub first_count : List Item
first_count = counts_named count number_zero number_zero

abbrev pub second_count : List Item
second_count = counts_named number_zero count number_zero

abbrev pub count_of_both : List Item
count_of_both = counts_named number_zero number_zero count

-- for each value on x these counts of the values on w beside it
unfoldable pub counts_query : Schema → List ℕ → Attributes → Attributes → List Item → Query
counts_query s table x w counts =
    select false (groups_made s x ++ counts) (values_query s table w) (codes "d")
    (groups_by (columns_on s (codes "d") x) None)

-- for each value on x three rows: the counts of values on xy, on xz, and on both
unfoldable pub three_counts : Schema → List ℕ → Attributes → Attributes → Attributes → Query
three_counts s table x y z =
    union_all (union_all (counts_query s table x (union x y) first_count)
    (counts_query s table x (union x z) second_count))
    (counts_query s table x (union x (union y z)) count_of_both)

abbrev pub sum_column : List ℕ → Column
sum_column name = record { alias = codes "e"; name = helper name }

abbrev pub product_of_counts : Scalar
product_of_counts = sum_product (sum_column (codes "y")) (sum_column (codes "z"))

-- the values on x whose counts on xy and xz have another product than the count on both; where x is
-- empty, by how much the product is more
unfoldable pub groups_of_unpaired : Schema → List ℕ → ℕ → Attributes → Attributes → Attributes → Query
groups_of_unpaired s table line x y z =
    select false (line_item line ∷ groups_shown s x) (three_counts s table x y z) (codes "e")
    (groups_by (groups_on s x) (Some (differs product_of_counts (sum (sum_column (codes "n"))))))

unfoldable pub count_of_unpaired : Schema → List ℕ → ℕ → Attributes → Attributes → Attributes → Query
count_of_unpaired s table line x y z =
    select false (line_item line ∷ own count_column ∷ [])
    (select false (named (less_sum product_of_counts (sum_column (codes "n"))) count_name ∷ [])
    (three_counts s table x y z) (codes "e") (groups_by [] None))
    (codes "c") (rows_where (differs (column count_column) number_zero))

abbrev pub unpaired_query : Schema → List ℕ → ℕ → Attributes → Attributes → Attributes → Query
unpaired_query s table line x y z =
    if has_members s x then groups_of_unpaired s table line x y z else count_of_unpaired s table line x y z

-- ---- terms
-- the query of a term that breaks the dependency of a line; the other terms are of plans
abbrev pub query_of : Schema → List ℕ → ℕ → terms.TableQuery → Option Query
query_of s table line (several x w) = Some (several_query s table line x w)
query_of s table line (unpaired x y z) = Some (unpaired_query s table line x y z)
query_of s table line term = None

-- the query for what breaks the dependency of a line; none where every relation obeys it
abbrev pub check_query : Schema → List ℕ → ℕ → Dependency → Option Query
check_query s table line d = option_and_then (query_of s table line) (breaches_of (width_of s) d)

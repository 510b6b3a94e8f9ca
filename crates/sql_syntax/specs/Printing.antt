-- The texts of queries: for all that prints queries.
use Rattle.std.specs.Prelude.{ℕ, Bool, true, false, if◌then◌else◌, Option, Some, None, List, [], ◌∷◌, ◌++◌, codes}
use Rattle.std.specs.Fmt.{decimal}
use Rattle.std.specs.List.{flat_map}
use Rattle.sql_syntax.specs.Names.{comma_list, quoted_name}
use Rattle.sql_syntax.specs.Syntax.{ColumnName, attribute, helper, Column, Scalar, column, as_text, as_integer, with_empty_text, number_zero, number_one, written_number, missing_value, count, sum, greatest, sum_product, less_sum, Condition, is_missing, is_present, differs, equals, exceeds, either, both, Item, own, named, unnamed, Clause, each_row, rows_where, group_where, groups_by, Link, by_columns, left_by_columns, crosswise, Query, stored, select, union_all, except, joined, all_columns, one_row}

-- a user's name stands in quotes
abbrev pub name_text : ColumnName → List ℕ
name_text (attribute name) = quoted_name name
name_text (helper name) = name

abbrev pub column_text : Column → List ℕ
column_text c = c.alias ++ 46 ∷ name_text c.name

abbrev pub scalar_text : Scalar → List ℕ
scalar_text (column c) = column_text c
scalar_text (as_text x) = codes "CAST(" ++ scalar_text x ++ codes " AS TEXT)"
scalar_text (as_integer x) = codes "CAST(" ++ scalar_text x ++ codes " AS BIGINT)"
scalar_text (with_empty_text x) = scalar_text x ++ codes " || ''"
scalar_text number_zero = codes "0"
scalar_text number_one = codes "1"
scalar_text (written_number n) = decimal n
scalar_text missing_value = codes "NULL"
scalar_text count = codes "COUNT(*)"
scalar_text (sum c) = codes "SUM(" ++ column_text c ++ codes ")"
scalar_text (greatest c) = codes "MAX(" ++ column_text c ++ codes ")"
scalar_text (sum_product c d) =
    codes "SUM(" ++ column_text c ++ codes ") * SUM(" ++ column_text d ++ codes ")"
scalar_text (less_sum x c) = scalar_text x ++ codes " - SUM(" ++ column_text c ++ codes ")"

abbrev pub condition_text : Condition → List ℕ
condition_text (is_missing x) = scalar_text x ++ codes " IS NULL"
condition_text (is_present x) = scalar_text x ++ codes " IS NOT NULL"
condition_text (differs x y) = scalar_text x ++ codes " <> " ++ scalar_text y
condition_text (equals x y) = scalar_text x ++ codes " = " ++ scalar_text y
condition_text (exceeds x y) = scalar_text x ++ codes " > " ++ scalar_text y
condition_text (either p q) = condition_text p ++ codes " OR " ++ condition_text q
condition_text (both p q) = condition_text p ++ codes " AND " ++ condition_text q

abbrev pub item_text : Item → List ℕ
item_text (own c) = column_text c
item_text (named x name) = scalar_text x ++ codes " AS " ++ name_text name
item_text (unnamed x) = scalar_text x

-- ---- clauses
abbrev pub group_text : List Column → List ℕ
group_text [] = []
group_text (c ∷ cs) = codes " GROUP BY " ++ comma_list column_text (c ∷ cs)

abbrev pub having_text : Option Condition → List ℕ
having_text None = []
having_text (Some p) = codes " HAVING " ++ condition_text p

abbrev pub clause_text : Clause → List ℕ
clause_text each_row = []
clause_text (rows_where p) = codes " WHERE " ++ condition_text p
clause_text (group_where p) = codes " WHERE " ++ condition_text p
clause_text (groups_by columns having) = group_text columns ++ having_text having

-- ---- joins
-- columns by their names alone
abbrev pub names_text : List ColumnName → List ℕ
names_text names = comma_list name_text names

abbrev pub link_text : Link → List ℕ
link_text (by_columns name columns) = codes " JOIN " ++ name ++ codes " USING (" ++ names_text columns ++ codes ")"
link_text (left_by_columns name columns) =
    codes " LEFT JOIN " ++ name ++ codes " USING (" ++ names_text columns ++ codes ")"
link_text (crosswise name) = codes " CROSS JOIN " ++ name

-- what is selected from a table and those that are joined to it: the texts of the parts
unfoldable pub joined_text : List ℕ → List ℕ → List ℕ → List ℕ
joined_text names first links = codes "SELECT " ++ names ++ codes " FROM " ++ first ++ links

-- ---- queries
abbrev pub distinct_text : Bool → List ℕ
distinct_text distinct = if distinct then codes "DISTINCT " else []

-- a query stands in brackets where it is a source
abbrev pub in_brackets : Bool → List ℕ → List ℕ
in_brackets is_source text = if is_source then codes "(" ++ text ++ codes ")" else text

-- what is selected from what: the texts of the parts
unfoldable pub selected_text : Bool → List ℕ → List ℕ → List ℕ → List ℕ → List ℕ
selected_text distinct items source alias clause =
    codes "SELECT " ++ distinct_text distinct ++ items ++ codes " FROM " ++ source ++ codes " AS " ++ alias ++ clause

abbrev pub text_at : Bool → Query → List ℕ
text_at is_source (stored name) = name
text_at is_source (select distinct items source alias clause) =
    in_brackets is_source
    (selected_text distinct (comma_list item_text items) (text_at true source) alias (clause_text clause))
text_at is_source (union_all p q) =
    in_brackets is_source (text_at false p ++ codes " UNION ALL " ++ text_at false q)
text_at is_source (except p q) =
    in_brackets is_source (text_at false p ++ codes " EXCEPT " ++ text_at false q)
text_at is_source (joined names first links) =
    in_brackets is_source (joined_text (names_text names) first (flat_map link_text links))
text_at is_source (all_columns source alias) =
    in_brackets is_source (codes "SELECT * FROM " ++ text_at true source ++ codes " AS " ++ alias)
text_at is_source (one_row values) = in_brackets is_source (codes "SELECT " ++ comma_list scalar_text values)

-- a query, as it stands in a statement, and as the source of another
abbrev pub query_text : Query → List ℕ
query_text q = text_at false q

abbrev pub source_text : Query → List ℕ
source_text q = text_at true q

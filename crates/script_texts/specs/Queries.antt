-- Queries that can be read back from their texts: for the law that a text has one of them, and for the laws of what is
-- printed.
use Rattle.std.specs.Prelude.{◌≡◌, ℕ, ◌^◌, nat_lt, Bool, true, false, not, ◌&&◌, ◌||◌, IsTrue, Option, None, Some, List, [], ◌∷◌, All, codes}
use Rattle.std.specs.Char.{is_ascii_digit, is_ascii_lowercase}
use Rattle.std.specs.List.{join_by, list_all, list_any}
use Rattle.schema_model.specs.Names.{quoted}
use Rattle.sql_syntax.specs.Names.{is_not_empty}
use Rattle.sql_syntax.specs.Syntax.{ColumnName, attribute, helper, Column, Scalar, column, as_text, as_integer, with_empty_text, number_zero, number_one, written_number, missing_value, count, sum, greatest, sum_product, less_sum, Condition, is_missing, is_present, differs, equals, exceeds, either, both, Item, own, named, unnamed, Clause, each_row, rows_where, group_where, groups_by, Link, by_columns, left_by_columns, crosswise, Query, stored, select, union_all, except, joined, all_columns, one_row}

-- ---- names
abbrev pub is_bare_byte : ℕ → Bool
is_bare_byte b = is_ascii_lowercase b || is_ascii_digit b

-- a name that stands without quotes: a small letter, then small letters and digits. Words of SQL have capitals
abbrev pub is_bare : List ℕ → Bool
is_bare [] = false
is_bare (b ∷ bytes) = is_ascii_lowercase b && list_all is_bare_byte bytes

-- a user's name may be any, since it stands in quotes
abbrev pub is_column_name : ColumnName → Bool
is_column_name (attribute name) = true
is_column_name (helper name) = is_bare name

abbrev pub is_user_name : ColumnName → Bool
is_user_name (attribute name) = true
is_user_name (helper name) = false

abbrev pub is_column : Column → Bool
is_column c = is_bare c.alias && is_column_name c.name

-- the name of a table: names in quotes, with a dot between two
abbrev pub IsTableName : List ℕ → Type 0
IsTableName name = (parts : List (List ℕ)) × (name ≡ join_by quoted (codes ".") parts)

-- ---- values
-- a number that is written out: of 64 bits, and neither 0 nor 1, which are values of their own
abbrev pub is_number : ℕ → Bool
is_number n = nat_lt 1 n && nat_lt n (2 ^ 64)

abbrev pub is_cast : Scalar → Bool
is_cast (as_text x) = true
is_cast (as_integer x) = true
is_cast x = false

abbrev pub is_sum : Scalar → Bool
is_sum (sum c) = true
is_sum (sum_product c d) = true
is_sum x = false

-- without brackets the empty text stands after a cast alone, and a minus after a sum or a product of two
abbrev pub is_scalar : Scalar → Bool
is_scalar (column c) = is_column c
is_scalar (as_text x) = is_scalar x
is_scalar (as_integer x) = is_scalar x
is_scalar (with_empty_text x) = is_cast x && is_scalar x
is_scalar number_zero = true
is_scalar number_one = true
is_scalar (written_number n) = is_number n
is_scalar missing_value = true
is_scalar count = true
is_scalar (sum c) = is_column c
is_scalar (greatest c) = is_column c
is_scalar (sum_product c d) = is_column c && is_column d
is_scalar (less_sum x c) = is_sum x && is_scalar x && is_column c

-- a value that rests on no row
abbrev pub is_constant : Scalar → Bool
is_constant number_zero = true
is_constant number_one = true
is_constant (written_number n) = is_number n
is_constant missing_value = true
is_constant x = false

-- a value of a group, and not of a row
abbrev pub is_of_group : Scalar → Bool
is_of_group (column c) = false
is_of_group (as_text x) = is_of_group x
is_of_group (as_integer x) = is_of_group x
is_of_group (with_empty_text x) = is_of_group x
is_of_group number_zero = false
is_of_group number_one = false
is_of_group (written_number n) = false
is_of_group missing_value = false
is_of_group x = true

-- ---- tests
-- one test of values
abbrev pub is_test : Condition → Bool
is_test (is_missing x) = is_scalar x
is_test (is_present x) = is_scalar x
is_test (differs x y) = is_scalar x && is_scalar y
is_test (equals x y) = is_scalar x && is_scalar y
is_test (exceeds x y) = is_scalar x && is_scalar y
is_test (either p q) = false
is_test (both p q) = false

-- without brackets AND stands after a test, and OR after tests with AND between
abbrev pub are_tests : Condition → Bool
are_tests (both p q) = is_test p && are_tests q
are_tests p = is_test p

abbrev pub is_condition : Condition → Bool
is_condition (either p q) = are_tests p && is_condition q
is_condition p = are_tests p

abbrev pub is_having : Option Condition → Bool
is_having None = true
is_having (Some p) = is_condition p

-- ---- what is selected
abbrev pub is_column_value : Scalar → Bool
is_column_value (column c) = true
is_column_value x = false

-- a column without a name of its own has that of the column
abbrev pub is_item : Item → Bool
is_item (own c) = is_column c
is_item (named x name) = is_scalar x && is_column_name name
is_item (unnamed x) = is_scalar x && not (is_column_value x)

abbrev pub is_item_of_group : Item → Bool
is_item_of_group (own c) = false
is_item_of_group (named x name) = is_of_group x
is_item_of_group (unnamed x) = is_of_group x

-- whether all rows are one group where no GROUP BY and no HAVING say so: a value of a group is selected
abbrev pub are_one_group : List Item → Bool
are_one_group items = list_any is_item_of_group items

-- what stands after a source of which items are selected
abbrev pub is_clause : List Item → Clause → Bool
is_clause items each_row = not (are_one_group items)
is_clause items (rows_where p) = is_condition p && not (are_one_group items)
is_clause items (group_where p) = is_condition p && are_one_group items
is_clause items (groups_by [] None) = are_one_group items
is_clause items (groups_by [] (Some p)) = is_condition p
is_clause items (groups_by (c ∷ cs) having) = list_all is_column (c ∷ cs) && is_having having

-- ---- queries
-- a table that is joined
abbrev pub IsLink : Link → Type 0
IsLink (by_columns name columns) = IsTableName name × IsTrue (list_all is_column_name columns)
IsLink (left_by_columns name columns) = IsTableName name × IsTrue (list_all is_column_name columns)
IsLink (crosswise name) = IsTableName name

-- rows of two queries are taken together
abbrev pub is_compound : Query → Bool
is_compound (union_all p q) = true
is_compound (except p q) = true
is_compound q = false

-- a query, or what stands as a source. A table is a source alone; without brackets UNION ALL and EXCEPT are done from
-- the left; columns of tables that are joined are a user's
abbrev pub IsQueryAt : Bool → Query → Type 0
IsQueryAt is_source (stored name) = IsTrue is_source × IsTableName name
IsQueryAt is_source (select distinct items source alias clause) =
    IsTrue (list_all is_item items) × IsQueryAt true source × IsTrue (is_bare alias) × IsTrue (is_clause items clause)
IsQueryAt is_source (union_all p q) = IsQueryAt false p × IsQueryAt false q × IsTrue (not (is_compound q))
IsQueryAt is_source (except p q) = IsQueryAt false p × IsQueryAt false q × IsTrue (not (is_compound q))
IsQueryAt is_source (joined names first links) =
    IsTrue (is_not_empty names && list_all is_user_name names) × IsTableName first × All IsLink links
IsQueryAt is_source (all_columns source alias) = IsQueryAt true source × IsTrue (is_bare alias)
IsQueryAt is_source (one_row values) = IsTrue (is_not_empty values && list_all is_constant values)

abbrev pub IsQuery : Query → Type 0
IsQuery q = IsQueryAt false q

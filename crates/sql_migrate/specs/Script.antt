-- The script of `sql migrate` as statements: for `migrate_script` (`sql_scripts`) and the laws of what it does.
use Rattle.std.specs.Prelude.{ℕ, true, false, if◌then◌else◌, None, List, [], ◌∷◌, ◌++◌, map, replicate, codes}
use Rattle.attr_sets.specs.Attributes.{Attributes, union, intersection}
use Rattle.attr_sets.specs.Sets.{attributes}
use Rattle.dep_model.specs.JoinOrders.{from_last}
use Rattle.dep_model.specs.Projections.{members_below}
use Rattle.optional_tables.specs.Order.{always_filled, look_up_order, members_at}
use Rattle.schema_model.specs.Schemas.{Schema}
use Rattle.schema_model.specs.Schemas.{width_of, universe_of, nullable_of}
use Rattle.ddl_text.specs.declared.table.TableDesign.{TableDesign}
use Rattle.ddl_text.specs.Ddl.{is_empty, tables_made}
use Rattle.ddl_text.specs.Designs.{keyed}
use Rattle.sql_syntax.specs.Names.{attribute_names, quoted_name}
use Rattle.sql_syntax.specs.Syntax.{helper, number_zero, number_one, missing_value, count, column, Condition, is_present, equals, both, unnamed, Clause, each_row, rows_where, groups_by, Link, by_columns, left_by_columns, crosswise, Query, stored, select, union_all, except, joined, all_columns, one_row}
use Rattle.sql_syntax.specs.Statements.{Statement, remark, begin, commit, create_zeros, create_from, create_view, insert_into, insert_all, drop_table}
use Rattle.sql_check.specs.Columns.{name_at, named_column, compared_on}
use Rattle.sql_migrate.specs.declared.joining.JoinedTable.{JoinedTable}
use Rattle.sql_migrate.specs.Moving.{copied_on, moved_on}
use Rattle.sql_migrate.specs.declared.moving.Move.TheVariants.{Entering, Returning}

-- ---- names
-- of the copy of the user's table, of the view, and of the table of the test
abbrev pub copy_name : List ℕ
copy_name = codes "\"t0\""

abbrev pub view_name : List ℕ
view_name = codes "\"joined\""

abbrev pub test_name : List ℕ
test_name = codes "\"t00\""

-- ---- tables
-- the user's table, as it is copied
unfoldable pub copy_query : Schema → List ℕ → Query
copy_query s table = select false (copied_on s (universe_of s)) (stored table) (codes "r") each_row

-- a row of the copy has values of attributes
abbrev pub has_value : Schema → ℕ → Condition
has_value s k = is_present (column (named_column (codes "o") (name_at s k)))

abbrev pub have_values : Schema → ℕ → List ℕ → Condition
have_values s k [] = has_value s k
have_values s k (j ∷ ks) = both (has_value s k) (have_values s j ks)

abbrev pub rows_with : Schema → List ℕ → Clause
rows_with s [] = each_row
rows_with s (k ∷ ks) = rows_where (have_values s k ks)

-- the rows of the copy that miss no value of a key
abbrev pub complete_rows : Schema → Attributes → Clause
complete_rows s key = rows_with s (members_below (width_of s) (intersection key (nullable_of s)))

-- the values on a table of those rows of the copy that miss none of its key, each once
unfoldable pub fill_query : Schema → TableDesign → Query
fill_query s table =
    select true (moved_on s Entering (attributes table.scheme)) (stored copy_name) (codes "o")
    (complete_rows s (attributes table.key))

unfoldable pub fill : Schema → TableDesign → Statement
fill s table =
    insert_into (quoted_name table.name) (attribute_names s (attributes table.scheme)) (fill_query s table)

-- ---- the view
-- a table that is joined to others by the attributes that they share, or else each row with each
abbrev pub link : Schema → Attributes → JoinedTable → Link
link s shared table =
    if is_empty shared then crosswise (quoted_name table.name)
    else by_columns (quoted_name table.name) (attribute_names s shared)

abbrev pub links : Schema → Attributes → List JoinedTable → List Link
links s seen [] = []
links s seen (table ∷ tables) =
    link s (intersection seen (attributes table.scheme)) table ∷ links s (union seen (attributes table.scheme)) tables

-- a table that is looked up by its key
abbrev pub look_up : Schema → TableDesign → Link
look_up s table = left_by_columns (quoted_name table.name) (attribute_names s (attributes table.key))

-- the natural join of tables, one after the other, and those that are looked up from it
abbrev pub join_of : Schema → List JoinedTable → List TableDesign → Query
join_of s [] optional = joined (attribute_names s (universe_of s)) [] (map (look_up s) optional)
join_of s (first ∷ tables) optional =
    joined (attribute_names s (universe_of s)) (quoted_name first.name)
    (links s (attributes first.scheme) tables ++ map (look_up s) optional)

-- the tables of a design, by their names and schemes
abbrev pub joined_tables : List TableDesign → List JoinedTable
joined_tables tables = map (λ table. record { name = table.name; scheme = table.scheme }) tables

-- the tables of a design that are not optional, and those that are, in the order in which they are looked up
abbrev pub filled_tables : Schema → List TableDesign → List TableDesign
filled_tables s tables = members_at tables (always_filled (nullable_of s) (map keyed tables))

abbrev pub looked_up_tables : Schema → List TableDesign → List TableDesign
looked_up_tables s tables = members_at tables (look_up_order (nullable_of s) (map keyed tables))

-- the attributes of a table that is joined
abbrev pub scheme_of_joined : JoinedTable → Attributes
scheme_of_joined table = attributes table.scheme

-- tables in the order in which the view joins them
abbrev pub view_order : List JoinedTable → List JoinedTable
view_order tables = from_last scheme_of_joined tables

unfoldable pub view_query : Schema → List TableDesign → Query
view_query s tables = join_of s (view_order (joined_tables (filled_tables s tables))) (looked_up_tables s tables)

-- ---- the test
-- the rows of the user's table beside one of as many missing values as there are attributes, of which none is taken:
-- an error where the table has other columns
unfoldable pub width_query : Schema → List ℕ → Query
width_query s table =
    select false (unnamed number_zero ∷ [])
    (union_all (all_columns (stored table) (codes "r")) (one_row (replicate (width_of s) missing_value))) (codes "d")
    (rows_where (equals number_one number_zero))

-- the rows of the user's table, and those of the view, by their texts
unfoldable pub table_rows : Schema → List ℕ → Query
table_rows s table = select false (compared_on s (universe_of s)) (stored table) (codes "r") each_row

unfoldable pub viewed_rows : Schema → Query
viewed_rows s = select false (moved_on s Returning (universe_of s)) (stored view_name) (codes "j") each_row

-- how many rows a query gives
unfoldable pub count_of : Query → Query
count_of q = select false (unnamed count ∷ []) q (codes "d") (groups_by [] None)

-- what the view lacks, and what it has beyond the table
abbrev pub lacked : Schema → List ℕ → Query
lacked s table = except (table_rows s table) (viewed_rows s)

abbrev pub gained : Schema → List ℕ → Query
gained s table = except (viewed_rows s) (table_rows s table)

-- ---- the script
-- the test whether the view is the table, and the end of what it needs
abbrev pub testing : Schema → List ℕ → List Statement
testing s table =
    create_zeros test_name (helper (codes "n"))
    ∷ remark (codes "an error here: the table has other columns than the schema")
    ∷ insert_all test_name (width_query s table)
    ∷ remark (codes "an error here undoes all: the view would lack a row of the table, or have one more")
    ∷ insert_all test_name (count_of (lacked s table)) ∷ insert_all test_name (count_of (gained s table))
    ∷ drop_table test_name ∷ drop_table copy_name ∷ []

-- what is done or undone as a whole
abbrev pub work : Schema → List ℕ → List TableDesign → List Statement
work s table tables =
    create_from copy_name (copy_query s table)
    ∷ (tables_made s tables tables
    ++ (map (fill s) tables ++ (create_view view_name (view_query s tables) ∷ testing s table)))

abbrev pub migration : Schema → List ℕ → List TableDesign → List Statement
migration s table tables =
    remark (codes "all of it or nothing, where the first error ends it: psql -v ON_ERROR_STOP=1, sqlite3 -bail")
    ∷ begin ∷ (work s table tables ++ commit ∷ [])

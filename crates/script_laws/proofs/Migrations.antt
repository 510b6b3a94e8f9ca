-- The statements of `sql migrate` are read back.
use Rattle.std.proofs.Common.{◌≡◌, ◌<◌, ◌&&◌, ℕ, zero, suc, Bool, true, false, not, List, [], ◌∷◌, ◌++◌, length, map, replicate, refl, ap, arith}
use Rattle.std.specs.Prelude.{All, codes, if◌then◌else◌, slice_index_or}
use Rattle.std.specs.List.{list_all}
use Rattle.std.proofs.lemmas.Bool.{and_from, lt-ltb}
use Rattle.std.proofs.lemmas.List.Elements.{All-nil, All-cons, All-append, All-from_recursion, All-map}
use Rattle.attr_sets.specs.Attributes.{Attributes, union, intersection}
use Rattle.attr_sets.specs.Sets.{attributes}
use Rattle.dep_model.specs.Projections.{members_below}
use Rattle.schema_model.specs.Columns.{is_plain_type}
use Rattle.schema_model.specs.Names.{IsName, quotes_doubled}
use Rattle.schema_model.specs.Schemas.{Schema, names_of, width_of, universe_of, nullable_of}
use Rattle.schema_printer.specs.Printing.{is_integer, members_from}
use Rattle.sql_syntax.specs.Names.{attribute_names, quoted_name, is_not_empty}
use Rattle.sql_syntax.specs.Syntax.{ColumnName, Scalar, attribute, missing_value, Item, Link, by_columns, crosswise, Query}
use Rattle.sql_syntax.specs.Statements.{Statement, begin, commit, create_from, create_view}
use Rattle.sql_check.specs.Columns.{name_at, type_at}
use Rattle.ddl_text.specs.Ddl.{is_empty, tables_made}
use Rattle.ddl_text.specs.declared.table.TableDesign.{TableDesign}
use Rattle.sql_migrate.specs.declared.joining.JoinedTable.{JoinedTable}
use Rattle.sql_migrate.specs.declared.moving.Move.{Move}
use Rattle.sql_migrate.specs.declared.moving.Move.TheVariants.{Entering, Returning}
use Rattle.sql_migrate.specs.Moving.{copied_column, copied_at, copied_on, moved, moved_at, moved_on}
use Rattle.sql_migrate.specs.Script.{copy_name, view_name, test_name, copy_query, have_values, rows_with, fill_query, fill, link, links, look_up, join_of, joined_tables, filled_tables, looked_up_tables, view_order, view_query, width_query, table_rows, viewed_rows, count_of, lacked, gained, testing, work, migration}
use Rattle.script_texts.specs.Queries.{is_user_name, IsTableName, is_constant, are_tests, is_condition, is_item, is_item_of_group, are_one_group, is_clause, is_compound, IsLink, IsQueryAt, IsQuery}
use Rattle.script_texts.specs.Scripts.{IsStatement, IsScript}
use Rattle.script_laws.specs.Premises.{HasPlainTypes}
use Rattle.script_laws.proofs.Tests.{all_made, none_made}
use Rattle.script_laws.proofs.Columns.{compared_are, compared_of_rows}
use Rattle.script_laws.proofs.Designs.{table_named, names_are, tables_are}

-- ---- names
copy_named : IsTableName copy_name
unfolding quotes_doubled
copy_named = (codes "t0" ∷ [], refl)

view_named : IsTableName view_name
unfolding quotes_doubled
view_named = (codes "joined" ∷ [], refl)

test_named : IsTableName test_name
unfolding quotes_doubled
test_named = (codes "t00" ∷ [], refl)

-- ---- the copy
copied_is : (plain : Bool) (name : List ℕ) → is_item (copied_column plain name) ≡ true
copied_is true name = refl
copied_is false name = refl

copied_of_row : (plain : Bool) (name : List ℕ) → is_item_of_group (copied_column plain name) ≡ false
copied_of_row true name = refl
copied_of_row false name = refl

copied_are : (s : Schema) (x : Attributes) → list_all is_item (copied_on s x) ≡ true
copied_are s x =
    all_made is_item (copied_at s) (members_below (width_of s) x)
    (λ k. copied_is (is_plain_type (type_at s k)) (name_at s k))

copied_of_rows : (s : Schema) (x : Attributes) → are_one_group (copied_on s x) ≡ false
copied_of_rows s x =
    none_made is_item_of_group (copied_at s) (members_below (width_of s) x)
    (λ k. copied_of_row (is_plain_type (type_at s k)) (name_at s k))

copy_is : (s : Schema) (table : List ℕ) → IsTableName table → IsQuery (copy_query s table)
unfolding copy_query
copy_is s table named = (copied_are s (universe_of s), (refl, named), refl, ap not (copied_of_rows s (universe_of s)))

-- ---- from the copy, and back
moved_is : (move : Move) (name : List ℕ) (of_integer : Bool) → is_item (moved move name of_integer) ≡ true
moved_is Entering name true = refl
moved_is Entering name false = refl
moved_is Returning name of_integer = refl

moved_of_row : (move : Move) (name : List ℕ) (of_integer : Bool) → is_item_of_group (moved move name of_integer) ≡ false
moved_of_row Entering name true = refl
moved_of_row Entering name false = refl
moved_of_row Returning name of_integer = refl

moved_are : (s : Schema) (move : Move) (x : Attributes) → list_all is_item (moved_on s move x) ≡ true
moved_are s move x =
    all_made is_item (moved_at s move) (members_below (width_of s) x)
    (λ k. moved_is move (name_at s k) (is_integer (type_at s k)))

moved_of_rows : (s : Schema) (move : Move) (x : Attributes) → are_one_group (moved_on s move x) ≡ false
moved_of_rows s move x =
    none_made is_item_of_group (moved_at s move) (members_below (width_of s) x)
    (λ k. moved_of_row move (name_at s k) (is_integer (type_at s k)))

-- ---- what fills a table
values_are : (s : Schema) (k : ℕ) (ks : List ℕ) → are_tests (have_values s k ks) ≡ true
values_are s k [] = refl
values_are s k (j ∷ ks) = values_are s j ks

is_condition_of_tests : (s : Schema) (k : ℕ) (ks : List ℕ) → is_condition (have_values s k ks) ≡ true
is_condition_of_tests s k [] = refl
is_condition_of_tests s k (j ∷ ks) = values_are s j ks

rows_are : (s : Schema) (items : List Item) (ks : List ℕ) → are_one_group items ≡ false
    → is_clause items (rows_with s ks) ≡ true
rows_are s items [] rows = ap not rows
rows_are s items (k ∷ ks) rows =
    and_from (is_condition (have_values s k ks)) (not (are_one_group items)) (is_condition_of_tests s k ks)
    (ap not rows)

fill_query_is : (s : Schema) (table : TableDesign) → IsQuery (fill_query s table)
unfolding fill_query
fill_query_is s table = (
  moved_are s Entering (attributes table.scheme),
  (refl, copy_named),
  refl,
  rows_are s (moved_on s Entering (attributes table.scheme))
      (members_below (width_of s) (intersection (attributes table.key) (nullable_of s)))
      (moved_of_rows s Entering (attributes table.scheme)),
)

fill_is : (s : Schema) (table : TableDesign) → IsStatement (fill s table)
unfolding fill
fill_is s table = (table_named table.name, names_are s (attributes table.scheme), fill_query_is s table)

-- ---- the view
either_link : (b : Bool) (one other : Link) → IsLink one → IsLink other → IsLink (if b then one else other)
either_link true one other first second = first
either_link false one other first second = second

link_is : (s : Schema) (shared : Attributes) (table : JoinedTable) → IsLink (link s shared table)
link_is s shared table =
    either_link (is_empty shared) (crosswise (quoted_name table.name))
    (by_columns (quoted_name table.name) (attribute_names s shared))
    (table_named table.name) (table_named table.name, names_are s shared)

links_are : (s : Schema) (seen : Attributes) (tables : List JoinedTable) → All IsLink (links s seen tables)
links_are s seen [] = All-nil IsLink
links_are s seen (table ∷ tables) =
    let later : Attributes = union seen (attributes table.scheme) in
    let shared : Attributes = intersection seen (attributes table.scheme) in
    All-cons IsLink (link s shared table) (links s later tables) (link_is s shared table) (links_are s later tables)

look_ups_are : (s : Schema) (tables : List TableDesign) → All IsLink (map (look_up s) tables)
look_ups_are s tables =
    All-map IsLink (look_up s) tables
    (λ k d within. (
      table_named (slice_index_or tables k d).name,
      names_are s (attributes (slice_index_or tables k d).key),
    ))

-- a schema has an attribute, so a user's table has a column
first_named : (x : Attributes) (names : List (List ℕ)) → x 0 ≡ true → 0 < length names
    → is_not_empty (map attribute (members_from x 0 names)) ≡ true
first_named x [] first some = absurd (omega (arith, some))
first_named x (name ∷ names) first some =
    ap (λ (b : Bool). is_not_empty
    (map attribute (if b then name ∷ members_from x 1 names else members_from x 1 names))) first

some_names : (s : Schema) → is_not_empty (attribute_names s (universe_of s)) ≡ true
some_names s =
    first_named (universe_of s) (names_of s) (lt-ltb 0 (width_of s) s.valid.names_not_empty) s.valid.names_not_empty

users_names : (s : Schema) (x : Attributes) → list_all is_user_name (attribute_names s x) ≡ true
users_names s x = all_made is_user_name attribute (members_from x 0 (names_of s)) (λ name. refl)

abbrev are_names : List ColumnName → Bool
are_names names = is_not_empty names && list_all is_user_name names

all_names : (s : Schema) → are_names (attribute_names s (universe_of s)) ≡ true
all_names s =
    let names : List ColumnName = attribute_names s (universe_of s) in
    and_from (is_not_empty names) (list_all is_user_name names) (some_names s) (users_names s (universe_of s))

join_is : (s : Schema) (tables : List JoinedTable) (optional : List TableDesign) → IsQuery (join_of s tables optional)
join_is s [] optional = (all_names s, ([], refl), look_ups_are s optional)
join_is s (first ∷ tables) optional = (
  all_names s,
  table_named first.name,
  All-append IsLink (links s (attributes first.scheme) tables) (map (look_up s) optional)
      (links_are s (attributes first.scheme) tables) (look_ups_are s optional),
)

view_is : (s : Schema) (tables : List TableDesign) → IsQuery (view_query s tables)
unfolding view_query
view_is s tables = join_is s (view_order (joined_tables (filled_tables s tables))) (looked_up_tables s tables)

-- ---- the test
abbrev are_constants : List Scalar → Bool
are_constants values = is_not_empty values && list_all is_constant values

missing_are : (n : ℕ) → 0 < n → are_constants (replicate n missing_value) ≡ true
missing_are zero some = absurd (omega (arith, some))
missing_are (suc n) some = constants n
  where
    constants : (m : ℕ) → list_all is_constant (replicate m missing_value) ≡ true
    constants zero = refl
    constants (suc m) = constants m

width_is : (s : Schema) (table : List ℕ) → IsTableName table → IsQuery (width_query s table)
unfolding width_query
width_is s table named =
    (refl, (((refl, named), refl), missing_are (width_of s) s.valid.names_not_empty, refl), refl, refl)

table_rows_are : (s : Schema) (table : List ℕ) → IsTableName table → IsQuery (table_rows s table)
unfolding table_rows
table_rows_are s table named =
    (compared_are s (universe_of s), (refl, named), refl, ap not (compared_of_rows s (universe_of s)))

viewed_rows_are : (s : Schema) → IsQuery (viewed_rows s)
unfolding viewed_rows
viewed_rows_are s = (
  moved_are s Returning (universe_of s),
  (refl, view_named),
  refl,
  ap not (moved_of_rows s Returning (universe_of s)),
)

table_rows_alone : (s : Schema) (table : List ℕ) → not (is_compound (table_rows s table)) ≡ true
unfolding table_rows
table_rows_alone s table = refl

viewed_rows_alone : (s : Schema) → not (is_compound (viewed_rows s)) ≡ true
unfolding viewed_rows
viewed_rows_alone s = refl

count_is : (q : Query) → IsQueryAt true q → IsQuery (count_of q)
unfolding count_of
count_is q is = (refl, is, refl, refl)

lacked_is : (s : Schema) (table : List ℕ) → IsTableName table → IsQuery (count_of (lacked s table))
lacked_is s table named =
    count_is (lacked s table) (table_rows_are s table named, viewed_rows_are s, viewed_rows_alone s)

gained_is : (s : Schema) (table : List ℕ) → IsTableName table → IsQuery (count_of (gained s table))
gained_is s table named =
    count_is (gained s table) (viewed_rows_are s, table_rows_are s table named, table_rows_alone s table)

testing_is : (s : Schema) (table : List ℕ) → IsTableName table → IsScript (testing s table)
testing_is s table named =
    All-from_recursion IsStatement (testing s table) (
      (test_named, refl),
      (
        refl,
        (
          (test_named, width_is s table named),
          (
            refl,
            (
              (test_named, lacked_is s table named),
              ((test_named, gained_is s table named), (test_named, (copy_named, tt))),
            ),
          ),
        ),
      ),
    )

-- ---- the script
pub work_is : (s : Schema) (table : List ℕ) (tables : List TableDesign) → IsTableName table → All IsName (names_of s)
    → HasPlainTypes s → IsScript (work s table tables)
work_is s table tables named names plain =
    let view : Statement = create_view view_name (view_query s tables) in
    All-cons IsStatement (create_from copy_name (copy_query s table)) _ (copy_named, copy_is s table named)
    (All-append IsStatement (tables_made s tables tables) (map (fill s) tables ++ (view ∷ testing s table))
    (tables_are s tables tables names plain)
    (All-append IsStatement (map (fill s) tables) (view ∷ testing s table)
    (All-map IsStatement (fill s) tables (λ k d within. fill_is s (slice_index_or tables k d)))
    (All-cons IsStatement view (testing s table) (view_named, view_is s tables) (testing_is s table named))))

pub migration_is : (s : Schema) (table : List ℕ) (tables : List TableDesign) → IsTableName table
    → All IsName (names_of s)
    → HasPlainTypes s → IsScript (migration s table tables)
migration_is s table tables named names plain =
    All-cons IsStatement _ (begin ∷ (work s table tables ++ commit ∷ [])) refl
    (All-cons IsStatement begin (work s table tables ++ commit ∷ []) tt
    (All-append IsStatement (work s table tables) (commit ∷ []) (work_is s table tables named names plain)
    (All-cons IsStatement commit [] tt (All-nil IsStatement))))

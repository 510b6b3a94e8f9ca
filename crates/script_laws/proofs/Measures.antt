-- The queries of `sql measure` are read back.
use Rattle.std.proofs.Common.{◌≡◌, ◌+◌, ◌&&◌, ℕ, Bool, true, false, not, Some, None, Option, IfSome, List, [], ◌∷◌, ◌++◌, refl, ap}
use Rattle.std.specs.Prelude.{codes, if◌then◌else◌, option_and_then}
use Rattle.std.specs.List.{list_all}
use Rattle.std.proofs.lemmas.Bool.{and_from}
use Rattle.attr_sets.specs.Attributes.{Attributes, union, count_below}
use Rattle.dep_model.specs.Dependencies.{Dependency}
use Rattle.dep_model.specs.Projections.{members_below}
use Rattle.schema_model.specs.Schemas.{Schema, width_of}
use Rattle.relation_queries.specs.Queries.{breaches_of}
use Rattle.relation_queries.specs.Queries as terms
use Rattle.sql_syntax.specs.Syntax.{Column, Scalar, helper, sum, greatest, count, less_sum, sum_product, column, number_one, number_zero, exceeds, differs, named, Condition, Item, Query}
use Rattle.sql_check.specs.Columns.{columns_on, group_name, groups_made}
use Rattle.sql_check.specs.Checks.{has_members, values_query}
use Rattle.sql_measure.specs.Measures.{keys_on, rows_query, marks_query, counted_rows, totals_query, classes_query, class_count, groups_query, group_count, change_query, first_of_four, second_of_four, third_of_four, fourth_of_four, counts_query, four_counts, sum_column, pairs_query, lack_query, query_of, measure_query}
use Rattle.script_texts.specs.Queries.{IsTableName, is_bare, is_column, is_scalar, is_condition, is_item, are_one_group, is_compound, IsQueryAt, IsQuery}
use Rattle.script_laws.proofs.Tests.{all_made}
use Rattle.script_laws.proofs.Numbers.{numbered_bare}
use Rattle.script_laws.proofs.Columns.{columns_are, compared_are, compared_of_rows, counted_groups, counts_are, counts_of_groups}
use Rattle.script_laws.proofs.Checks.{values_are}

-- ---- columns and rows
keys_are : (s : Schema) (alias : List ℕ) (x : Attributes) → is_bare alias ≡ true
    → list_all is_column (keys_on s alias x) ≡ true
keys_are s alias x bare =
    all_made is_column (λ k. record { alias = alias; name = group_name x k }) (members_below (width_of s) x)
    (λ k. and_from (is_bare alias) _ bare (numbered_bare (count_below x k + 1)))

rows_are : (s : Schema) (table : List ℕ) (w : Attributes) → IsTableName table → (is_source : Bool)
    → IsQueryAt is_source (rows_query s table w)
unfolding rows_query
rows_are s table w is_table is_source = (compared_are s w, (refl, is_table), refl, ap not (compared_of_rows s w))

marks_are : (table : List ℕ) → IsTableName table → (is_source : Bool) → IsQueryAt is_source (marks_query table)
unfolding marks_query
marks_are table is_table is_source = (refl, (refl, is_table), refl, refl)

either_source : (b is_source : Bool) (p q : Query) → IsQueryAt is_source p → IsQueryAt is_source q
    → IsQueryAt is_source (if b then p else q)
either_source true is_source p q first second = first
either_source false is_source p q first second = second

counted_rows_are : (s : Schema) (table : List ℕ) (x : Attributes) → IsTableName table
    → IsQueryAt true (counted_rows s table x)
counted_rows_are s table x is_table =
    either_source (has_members s x) true (rows_query s table x) (marks_query table) (rows_are s table x is_table true)
    (marks_are table is_table true)

-- ---- what is shown
totals_are : (rows : Column) (amount : Scalar) (name : List ℕ) (test : Condition) (groups : Query)
    → is_column rows ≡ true → is_scalar amount ≡ true → is_condition test ≡ true → IsQueryAt true groups
    → IsQuery (totals_query rows amount name test groups)
unfolding totals_query
totals_are rows amount name test groups row_is amount_is test_is source = (
  refl,
  (
    and_from (is_column rows && true) _ (and_from (is_column rows) true row_is refl)
        (and_from (is_scalar amount && true) true (and_from (is_scalar amount) true amount_is refl) refl),
    source,
    refl,
    and_from (is_condition test) true test_is refl,
  ),
  refl,
  refl,
)

-- ---- functional dependencies
abbrev row_count : List Item
row_count = named count (helper (codes "n")) ∷ []

classes_are : (s : Schema) (table : List ℕ) (x w : Attributes) → IsTableName table
    → IsQueryAt true (classes_query s table x w)
unfolding classes_query
classes_are s table x w is_table = (
  counts_are s x row_count refl,
  rows_are s table w is_table true,
  refl,
  counted_groups (groups_made s x ++ row_count) (columns_on s (codes "d") w) (columns_are s (codes "d") w refl)
      (counts_of_groups s x row_count refl),
)

abbrev class_counts : List Item
class_counts =
    named (sum class_count) (helper (codes "n")) ∷ named (greatest class_count) (helper (codes "m"))
    ∷ named count (helper (codes "k")) ∷ []

groups_are : (s : Schema) (table : List ℕ) (x w : Attributes) → IsTableName table
    → IsQueryAt true (groups_query s table x w)
unfolding groups_query
groups_are s table x w is_table = (
  refl,
  classes_are s table x w is_table,
  refl,
  counted_groups class_counts (keys_on s (codes "c") x) (keys_are s (codes "c") x refl) refl,
)

change_is : (s : Schema) (table : List ℕ) (x w : Attributes) → IsTableName table → IsQuery (change_query s table x w)
change_is s table x w is_table =
    totals_are (group_count (codes "n")) (less_sum (sum (group_count (codes "n"))) (group_count (codes "m")))
    (codes "change") (exceeds (column (group_count (codes "k"))) number_one) (groups_query s table x w) refl refl refl
    (groups_are s table x w is_table)

-- ---- multivalued dependencies
counts_is : (s : Schema) (x : Attributes) (source : Query) (counts : List Item) → IsQueryAt true source
    → list_all is_item counts ≡ true → are_one_group counts ≡ true → IsQuery (counts_query s x source counts)
unfolding counts_query
counts_is s x source counts is are group = (
  counts_are s x counts are,
  is,
  refl,
  counted_groups (groups_made s x ++ counts) (columns_on s (codes "d") x) (columns_are s (codes "d") x refl)
      (counts_of_groups s x counts group),
)

not_joined : (s : Schema) (x : Attributes) (source : Query) (counts : List Item)
    → not (is_compound (counts_query s x source counts)) ≡ true
unfolding counts_query
not_joined s x source counts = refl

four_are : (s : Schema) (table : List ℕ) (x y z : Attributes) → IsTableName table
    → IsQueryAt true (four_counts s table x y z)
unfolding four_counts
four_are s table x y z is_table =
    let values : (w : Attributes) → IsQueryAt true (values_query s table w) = λ w. values_are s table w is_table true in
    let first = counts_is s x (values_query s table (union x y)) first_of_four (values (union x y)) refl refl in
    let second = counts_is s x (values_query s table (union x z)) second_of_four (values (union x z)) refl refl in
    let all : Attributes = union x (union y z) in
    let third = counts_is s x (values_query s table all) third_of_four (values all) refl refl in
    let rows = counted_rows_are s table x is_table in
    let fourth = counts_is s x (counted_rows s table x) fourth_of_four rows refl refl in (
      ((first, second, not_joined s x _ second_of_four), third, not_joined s x _ third_of_four),
      fourth,
      not_joined s x _ fourth_of_four,
    )

abbrev pair_counts : List Item
pair_counts =
    named (sum (sum_column (codes "r"))) (helper (codes "r"))
    ∷ named (less_sum (sum_product (sum_column (codes "y")) (sum_column (codes "z"))) (sum_column (codes "n")))
    (helper (codes "m")) ∷ []

pairs_are : (s : Schema) (table : List ℕ) (x y z : Attributes) → IsTableName table
    → IsQueryAt true (pairs_query s table x y z)
unfolding pairs_query
pairs_are s table x y z is_table = (
  refl,
  four_are s table x y z is_table,
  refl,
  counted_groups pair_counts (keys_on s (codes "e") x) (keys_are s (codes "e") x refl) refl,
)

lack_is : (s : Schema) (table : List ℕ) (x y z : Attributes) → IsTableName table → IsQuery (lack_query s table x y z)
lack_is s table x y z is_table =
    totals_are (group_count (codes "r")) (sum (group_count (codes "m"))) (codes "missing")
    (differs (column (group_count (codes "m"))) number_zero) (pairs_query s table x y z) refl refl refl
    (pairs_are s table x y z is_table)

-- ---- rules
term_is : (s : Schema) (table : List ℕ) (term : terms.TableQuery) → IsTableName table
    → IfSome (query_of s table term) IsQuery
term_is s table terms.whole is_table = tt
term_is s table (terms.values_on x) is_table = tt
term_is s table (terms.several x w) is_table = change_is s table x w is_table
term_is s table (terms.unpaired x y z) is_table = lack_is s table x y z is_table
term_is s table (terms.join p q) is_table = tt
term_is s table (terms.except p q) is_table = tt
term_is s table (terms.kept name q) is_table = tt

found_is : (s : Schema) (table : List ℕ) (found : Option terms.TableQuery) → IsTableName table
    → IfSome (option_and_then (query_of s table) found) IsQuery
found_is s table None is_table = tt
found_is s table (Some term) is_table = term_is s table term is_table

pub measure_is : (s : Schema) (table : List ℕ) (d : Dependency) → IsTableName table
    → IfSome (measure_query s table d) IsQuery
measure_is s table d is_table = found_is s table (breaches_of (width_of s) d) is_table

-- The queries of `sql check` are read back.
use Rattle.std.proofs.Common.{◌≡◌, ◌&&◌, ℕ, Bool, true, false, not, Some, None, Option, IfSome, IsSome, List, [], ◌∷◌, ◌++◌, refl, ap}
use Rattle.std.specs.Prelude.{codes, All, if◌then◌else◌, option_and_then}
use Rattle.std.specs.List.{list_all}
use Rattle.std.proofs.lemmas.Bool.{and_from}
use Rattle.std.proofs.lemmas.List.Elements.{All-weaker}
use Rattle.attr_sets.specs.Attributes.{Attributes, union}
use Rattle.dep_model.specs.Dependencies.{Dependency}
use Rattle.dep_model.specs.Projections.{members_below}
use Rattle.schema_model.specs.Schemas.{Schema, width_of, universe_of}
use Rattle.relation_queries.specs.Queries.{breaches_of}
use Rattle.relation_queries.specs.Queries as terms
use Rattle.sql_syntax.specs.Syntax.{Column, Item, Query}
use Rattle.sql_check.specs.Columns.{columns_on, groups_on, groups_made, groups_shown, items_on}
use Rattle.sql_check.specs.Checks.{has_members, required_of, some_missing, missing_query, missing_among, required_query, integer_query, rules_of, values_query, line_item, groups_of_several, count_of_several, several_query, first_count, second_count, count_of_both, counts_query, three_counts, groups_of_unpaired, count_of_unpaired, unpaired_query, query_of, check_query}
use Rattle.script_texts.specs.Queries.{IsTableName, is_number, is_column, is_condition, is_item, are_one_group, is_compound, IsQueryAt, IsQuery}
use Rattle.script_laws.specs.Premises.{HasLaterLines}
use Rattle.script_laws.proofs.Columns.{columns_are, items_are, items_of_rows, compared_are, compared_of_rows, groups_are, shown_are, tested_groups, counted_groups, counts_are, counts_of_groups}

-- ---- values
missing_tests : (s : Schema) (k : ℕ) (ms : List ℕ) → is_condition (some_missing s k ms) ≡ true
missing_tests s k [] = refl
missing_tests s k (m ∷ ms) = missing_tests s m ms

pub missing_is : (s : Schema) (table : List ℕ) (k : ℕ) (ms : List ℕ) → IsTableName table
    → IsQuery (missing_query s table k ms)
unfolding missing_query
missing_is s table k ms named = (
  items_are s (codes "r") (universe_of s) refl,
  (refl, named),
  refl,
  and_from (is_condition (some_missing s k ms)) (not (are_one_group (items_on s (codes "r") (universe_of s))))
      (missing_tests s k ms) (ap not (items_of_rows s (codes "r") (universe_of s))),
)

among_is : (s : Schema) (table : List ℕ) (ks : List ℕ) → IsTableName table → IfSome (missing_among s table ks) IsQuery
among_is s table [] named = tt
among_is s table (k ∷ ms) named = missing_is s table k ms named

pub required_is : (s : Schema) (table : List ℕ) → IsTableName table → IfSome (required_query s table) IsQuery
required_is s table named = among_is s table (members_below (width_of s) (required_of s)) named

pub integer_is : (table : List ℕ) (c : Column) → IsTableName table → is_column c ≡ true
    → IsQuery (integer_query table c)
unfolding integer_query
integer_is table c named is = (
  and_from (is_column c) true is refl,
  (refl, named),
  refl,
  and_from (is_column c && is_column c) true (and_from (is_column c) (is_column c) is is) refl,
)

-- ---- dependencies
pub values_are : (s : Schema) (table : List ℕ) (w : Attributes) → IsTableName table → (is_source : Bool)
    → IsQueryAt is_source (values_query s table w)
unfolding values_query
values_are s table w named is_source =
    (compared_are s w, (refl, named), refl, ap not (compared_of_rows s w))

pub line_is : (line : ℕ) → is_number line ≡ true → is_item (line_item line) ≡ true
line_is line numbered = and_from (is_number line) true numbered refl

groups_of_several_are : (s : Schema) (table : List ℕ) (line : ℕ) (x w : Attributes) → IsTableName table
    → is_number line ≡ true
    → IsQuery (groups_of_several s table line x w)
unfolding groups_of_several
groups_of_several_are s table line x w named numbered = (
  and_from (is_item (line_item line)) (list_all is_item (items_on s (codes "d") x)) (line_is line numbered)
      (items_are s (codes "d") x refl),
  values_are s table w named true,
  refl,
  tested_groups (line_item line ∷ items_on s (codes "d") x) (columns_on s (codes "d") x) _
      (columns_are s (codes "d") x refl) refl,
)

count_of_several_is : (s : Schema) (table : List ℕ) (line : ℕ) (w : Attributes) → IsTableName table
    → is_number line ≡ true
    → IsQuery (count_of_several s table line w)
unfolding count_of_several
count_of_several_is s table line w named numbered = (
  and_from (is_item (line_item line)) true (line_is line numbered) refl,
  (refl, values_are s table w named true, refl, refl),
  refl,
  refl,
)

either_is : (b : Bool) (p q : Query) → IsQuery p → IsQuery q → IsQuery (if b then p else q)
either_is true p q first second = first
either_is false p q first second = second

several_is : (s : Schema) (table : List ℕ) (line : ℕ) (x w : Attributes) → IsTableName table → is_number line ≡ true
    → IsQuery (several_query s table line x w)
several_is s table line x w named numbered =
    either_is (has_members s x) (groups_of_several s table line x w) (count_of_several s table line w)
    (groups_of_several_are s table line x w named numbered) (count_of_several_is s table line w named numbered)

-- ---- three counts
counted_are : (s : Schema) (table : List ℕ) (x w : Attributes) (counts : List Item) → IsTableName table
    → list_all is_item counts ≡ true → are_one_group counts ≡ true → IsQuery (counts_query s table x w counts)
unfolding counts_query
counted_are s table x w counts named are group = (
  counts_are s x counts are,
  values_are s table w named true,
  refl,
  counted_groups (groups_made s x ++ counts) (columns_on s (codes "d") x) (columns_are s (codes "d") x refl)
      (counts_of_groups s x counts group),
)

not_joined : (s : Schema) (table : List ℕ) (x w : Attributes) (counts : List Item)
    → not (is_compound (counts_query s table x w counts)) ≡ true
unfolding counts_query
not_joined s table x w counts = refl

three_are : (s : Schema) (table : List ℕ) (x y z : Attributes) → IsTableName table → (is_source : Bool)
    → IsQueryAt is_source (three_counts s table x y z)
unfolding three_counts
three_are s table x y z named is_source = (
  (
    counted_are s table x (union x y) first_count named refl refl,
    counted_are s table x (union x z) second_count named refl refl,
    not_joined s table x (union x z) second_count,
  ),
  counted_are s table x (union x (union y z)) count_of_both named refl refl,
  not_joined s table x (union x (union y z)) count_of_both,
)

groups_of_unpaired_are : (s : Schema) (table : List ℕ) (line : ℕ) (x y z : Attributes) → IsTableName table
    → is_number line ≡ true
    → IsQuery (groups_of_unpaired s table line x y z)
unfolding groups_of_unpaired
groups_of_unpaired_are s table line x y z named numbered = (
  and_from (is_item (line_item line)) (list_all is_item (groups_shown s x)) (line_is line numbered) (shown_are s x),
  three_are s table x y z named true,
  refl,
  tested_groups (line_item line ∷ groups_shown s x) (groups_on s x) _ (groups_are s x) refl,
)

count_of_unpaired_is : (s : Schema) (table : List ℕ) (line : ℕ) (x y z : Attributes) → IsTableName table
    → is_number line ≡ true
    → IsQuery (count_of_unpaired s table line x y z)
unfolding count_of_unpaired
count_of_unpaired_is s table line x y z named numbered = (
  and_from (is_item (line_item line)) true (line_is line numbered) refl,
  (refl, three_are s table x y z named true, refl, refl),
  refl,
  refl,
)

unpaired_is : (s : Schema) (table : List ℕ) (line : ℕ) (x y z : Attributes) → IsTableName table → is_number line ≡ true
    → IsQuery (unpaired_query s table line x y z)
unpaired_is s table line x y z named numbered =
    either_is (has_members s x) (groups_of_unpaired s table line x y z) (count_of_unpaired s table line x y z)
    (groups_of_unpaired_are s table line x y z named numbered) (count_of_unpaired_is s table line x y z named numbered)

-- ---- rules
term_is : (s : Schema) (table : List ℕ) (line : ℕ) (term : terms.TableQuery) → IsTableName table → is_number line ≡ true
    → IfSome (query_of s table line term) IsQuery
term_is s table line terms.whole named numbered = tt
term_is s table line (terms.values_on x) named numbered = tt
term_is s table line (terms.several x w) named numbered = several_is s table line x w named numbered
term_is s table line (terms.unpaired x y z) named numbered = unpaired_is s table line x y z named numbered
term_is s table line (terms.join p q) named numbered = tt
term_is s table line (terms.except p q) named numbered = tt
term_is s table line (terms.kept name q) named numbered = tt

found_is : (s : Schema) (table : List ℕ) (line : ℕ) (found : Option terms.TableQuery) → IsTableName table
    → (IsSome found → is_number line ≡ true) → IfSome (option_and_then (query_of s table line) found) IsQuery
found_is s table line None named later = tt
found_is s table line (Some term) named later = term_is s table line term named (later refl)

pub rules_are : (s : Schema) (table : List ℕ) → IsTableName table → HasLaterLines s
    → All (λ rule. IfSome (check_query s table rule.0 rule.1) IsQuery) (rules_of s)
rules_are s table named later =
    All-weaker (λ (rule : ℕ × Dependency). IsSome (breaches_of (width_of s) rule.1) → is_number rule.0 ≡ true)
    (λ (rule : ℕ × Dependency). IfSome (check_query s table rule.0 rule.1) IsQuery)
    (λ rule is. found_is s table rule.0 (breaches_of (width_of s) rule.1) named is) (rules_of s) later

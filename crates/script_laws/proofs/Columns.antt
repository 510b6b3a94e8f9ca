-- What is selected of the columns of a user's table is read back, and is no value of a group.
use Rattle.std.proofs.Common.{◌≡◌, ◌+◌, ℕ, true, false, Some, None, List, [], ◌∷◌, ◌++◌, refl}
use Rattle.std.specs.Prelude.{codes}
use Rattle.std.specs.List.{list_all}
use Rattle.std.proofs.lemmas.Bool.{and_from}
use Rattle.attr_sets.specs.Attributes.{Attributes, count_below}
use Rattle.dep_model.specs.Projections.{members_below}
use Rattle.schema_model.specs.Schemas.{Schema, width_of}
use Rattle.sql_syntax.specs.Syntax.{Column, attribute, column, Item, own, named, Condition, groups_by}
use Rattle.sql_check.specs.Columns.{name_at, column_at, columns_on, items_on, compared_at, compared_on, group_name, group_at, groups_made, groups_on, groups_shown}
use Rattle.script_texts.specs.Queries.{is_bare, is_column, is_condition, is_item, is_item_of_group, are_one_group, is_clause}
use Rattle.script_laws.proofs.Tests.{all_made, none_made, all_both, any_later}
use Rattle.script_laws.proofs.Numbers.{numbered_bare}

-- ---- columns under their own names
pub columns_are : (s : Schema) (alias : List ℕ) (x : Attributes) → is_bare alias ≡ true
    → list_all is_column (columns_on s alias x) ≡ true
columns_are s alias x bare =
    all_made is_column (column_at s alias) (members_below (width_of s) x) (λ k. and_from (is_bare alias) true bare refl)

pub items_are : (s : Schema) (alias : List ℕ) (x : Attributes) → is_bare alias ≡ true
    → list_all is_item (items_on s alias x) ≡ true
items_are s alias x bare =
    all_made is_item (λ k. own (column_at s alias k)) (members_below (width_of s) x)
    (λ k. and_from (is_bare alias) true bare refl)

pub items_of_rows : (s : Schema) (alias : List ℕ) (x : Attributes) → are_one_group (items_on s alias x) ≡ false
items_of_rows s alias x =
    none_made is_item_of_group (λ k. own (column_at s alias k)) (members_below (width_of s) x) (λ k. refl)

-- ---- columns that are compared
pub compared_are : (s : Schema) (x : Attributes) → list_all is_item (compared_on s x) ≡ true
compared_are s x = all_made is_item (compared_at s) (members_below (width_of s) x) (λ k. refl)

pub compared_of_rows : (s : Schema) (x : Attributes) → are_one_group (compared_on s x) ≡ false
compared_of_rows s x = none_made is_item_of_group (compared_at s) (members_below (width_of s) x) (λ k. refl)

-- ---- columns by whose numbers is counted
pub made_are : (s : Schema) (x : Attributes) → list_all is_item (groups_made s x) ≡ true
made_are s x =
    all_made is_item (λ k. named (column (column_at s (codes "d") k)) (group_name x k)) (members_below (width_of s) x)
    (λ k. numbered_bare (count_below x k + 1))

pub groups_are : (s : Schema) (x : Attributes) → list_all is_column (groups_on s x) ≡ true
groups_are s x =
    all_made is_column (group_at x) (members_below (width_of s) x) (λ k. numbered_bare (count_below x k + 1))

pub shown_are : (s : Schema) (x : Attributes) → list_all is_item (groups_shown s x) ≡ true
shown_are s x =
    all_made is_item (λ k. named (column (group_at x k)) (attribute (name_at s k))) (members_below (width_of s) x)
    (λ k. and_from (is_column (group_at x k)) true (numbered_bare (count_below x k + 1)) refl)

-- ---- groups
-- grouped by columns, of which there may be none
pub tested_groups : (items : List Item) (columns : List Column) (p : Condition) → list_all is_column columns ≡ true
    → is_condition p ≡ true → is_clause items (groups_by columns (Some p)) ≡ true
tested_groups items [] p are test = test
tested_groups items (c ∷ cs) p are test = and_from (list_all is_column (c ∷ cs)) (is_condition p) are test

pub counted_groups : (items : List Item) (columns : List Column) → list_all is_column columns ≡ true
    → are_one_group items ≡ true → is_clause items (groups_by columns None) ≡ true
counted_groups items [] are group = group
counted_groups items (c ∷ cs) are group = and_from (list_all is_column (c ∷ cs)) true are refl

-- ---- counts beside what is counted by
pub counts_are : (s : Schema) (x : Attributes) (counts : List Item) → list_all is_item counts ≡ true
    → list_all is_item (groups_made s x ++ counts) ≡ true
counts_are s x counts are = all_both is_item (groups_made s x) counts (made_are s x) are

pub counts_of_groups : (s : Schema) (x : Attributes) (counts : List Item) → are_one_group counts ≡ true
    → are_one_group (groups_made s x ++ counts) ≡ true
counts_of_groups s x counts some = any_later is_item_of_group (groups_made s x) counts some

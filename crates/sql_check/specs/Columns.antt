-- The columns of a user's table in queries, whose names are the attributes of a schema: for the queries
-- of `sql check` (`Checks`).
use Rattle.std.specs.Prelude.{ℕ, ◌+◌, List, ◌++◌, [], map, codes, slice_index_or}
use Rattle.std.specs.Fmt.{decimal}
use Rattle.attr_sets.specs.Attributes.{Attributes, count_below}
use Rattle.schema_model.specs.declared.column_type.ColumnType.{ColumnType}
use Rattle.schema_model.specs.declared.column_type.ColumnType.TheVariants.{Text}
use Rattle.schema_model.specs.Schemas.{Schema}
use Rattle.dep_model.specs.Projections.{members_below}
use Rattle.schema_model.specs.Schemas.{names_of, width_of, types_of}
use Rattle.sql_syntax.specs.Syntax.{ColumnName, attribute, helper, Column, Scalar, column, as_text, with_empty_text, Item, own, named}

-- ---- one column
abbrev pub name_at : Schema → ℕ → List ℕ
name_at s k = slice_index_or (names_of s) k []

abbrev pub type_at : Schema → ℕ → ColumnType
type_at s k = slice_index_or (types_of s) k Text

-- the column of a user's name, and of an attribute, of a source under an alias
abbrev pub named_column : List ℕ → List ℕ → Column
named_column alias name = record { alias = alias; name = attribute name }

abbrev pub column_at : Schema → List ℕ → ℕ → Column
column_at s alias k = named_column alias (name_at s k)

-- the text of a value, by which it is compared whatever its type: what is cast to text may keep a collation, and
-- what the empty text stands after has none
abbrev pub by_text : Column → Scalar
by_text c = with_empty_text (as_text (column c))

-- a column of a source by its text, under its name
abbrev pub compared : List ℕ → List ℕ → Item
compared alias name = named (by_text (named_column alias name)) (attribute name)

abbrev pub compared_at : Schema → ℕ → Item
compared_at s k = compared (codes "r") (name_at s k)

-- the name under which a query counts by an attribute of x: `c1`, `c2` and so on, ascending
abbrev pub numbered_name : ℕ → ColumnName
numbered_name number = helper (codes "c" ++ decimal number)

abbrev pub group_name : Attributes → ℕ → ColumnName
group_name x k = numbered_name (count_below x k + 1)

abbrev pub numbered_group : ℕ → Column
numbered_group number = record { alias = codes "e"; name = numbered_name number }

abbrev pub group_at : Attributes → ℕ → Column
group_at x k = numbered_group (count_below x k + 1)

-- ---- lists, ascending
-- the columns of a set's attributes, of a source under an alias
abbrev pub columns_on : Schema → List ℕ → Attributes → List Column
columns_on s alias x = map (column_at s alias) (members_below (width_of s) x)

abbrev pub items_on : Schema → List ℕ → Attributes → List Item
items_on s alias x = map (λ k. own (column_at s alias k)) (members_below (width_of s) x)

-- the columns of the user's table that are compared
abbrev pub compared_on : Schema → Attributes → List Item
compared_on s x = map (compared_at s) (members_below (width_of s) x)

-- the attributes of x under the names by which is counted; by these names; and under their own again
abbrev pub groups_made : Schema → Attributes → List Item
groups_made s x =
    map (λ k. named (column (column_at s (codes "d") k)) (group_name x k)) (members_below (width_of s) x)

abbrev pub groups_on : Schema → Attributes → List Column
groups_on s x = map (group_at x) (members_below (width_of s) x)

abbrev pub groups_shown : Schema → Attributes → List Item
groups_shown s x =
    map (λ k. named (column (group_at x k)) (attribute (name_at s k))) (members_below (width_of s) x)

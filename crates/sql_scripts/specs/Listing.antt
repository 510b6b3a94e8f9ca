-- How an attribute stands in a list of a query: for the queries of `sql check` and `sql migrate`.
use Rattle.std.specs.List.{flat_map}
use Rattle.std.specs.Prelude.{ℕ, Bool, ◌+◌, List, [], ◌∷◌, ◌++◌, map, codes}
use Rattle.attr_sets.specs.Attributes.{Attributes, count_below}
use Rattle.schema_model.specs.Schemas.{Schema}
use Rattle.schema_model.specs.Columns.{is_plain_type}
use Rattle.dep_model.specs.Projections.{members_below}
use Rattle.schema_model.specs.Schemas.{width_of}
use Rattle.sql_syntax.specs.Printing.{condition_text, item_text}
use Rattle.sql_syntax.specs.Syntax.{Condition, is_missing, is_present, attribute, column, Item, own, named}
use Rattle.sql_check.specs.Columns.{name_at, type_at, compared, named_column, numbered_name, numbered_group}
use Rattle.sql_migrate.specs.Moving.{copied_column}
use Rattle.sql_check.specs.Checks.{first_count, second_count, count_of_both}
use Rattle.sql_scripts.specs.declared.listing.Listed.{Listed}
use Rattle.sql_scripts.specs.declared.listing.Listed.TheVariants.{Compared, Copied, Read, Distinct, GroupMade, Group}
use Rattle.sql_scripts.specs.declared.listing.Listed.TheVariants.{GroupShown, ClassGroup}
use Rattle.sql_scripts.specs.declared.missing.Asked.{Asked}
use Rattle.sql_scripts.specs.declared.missing.Asked.TheVariants.{Missing, Present}
use Rattle.sql_scripts.specs.declared.unpaired.Counted.{Counted}
use Rattle.sql_scripts.specs.declared.unpaired.Counted.TheVariants.{First, Second, Both}

-- an attribute of this name, which comes at this number
abbrev pub item_with : Listed → ℕ → List ℕ → Bool → Item
item_with Compared number name plain = compared (codes "r") name
item_with Copied number name plain = copied_column plain name
item_with Read number name plain = own (named_column (codes "r") name)
item_with Distinct number name plain = own (named_column (codes "d") name)
item_with GroupMade number name plain =
    named (column (named_column (codes "d") name)) (numbered_name number)
item_with Group number name plain = own (numbered_group number)
item_with GroupShown number name plain = named (column (numbered_group number)) (attribute name)
item_with ClassGroup number name plain = own (record { alias = codes "c"; name = numbered_name number })

abbrev pub item_of : Schema → Listed → ℕ → ℕ → Item
item_of s listed number k = item_with listed number (name_at s k) (is_plain_type (type_at s k))

-- the attributes of a set, ascending
abbrev pub items_of : Schema → Listed → Attributes → List Item
items_of s listed x = map (λ k. item_of s listed (count_below x k + 1) k) (members_below (width_of s) x)

-- the text of one of them
abbrev pub item_text_at : Schema → Listed → Attributes → ℕ → List ℕ
item_text_at s listed x k = item_text (item_of s listed (count_below x k + 1) k)

-- which of the three counts
abbrev pub counts_of : Counted → List Item
counts_of First = first_count
counts_of Second = second_count
counts_of Both = count_of_both

-- ---- missing values
-- whether the value of a name is missing in the user's table, or stands in its copy
abbrev pub test_with : Asked → List ℕ → Condition
test_with Missing name = is_missing (column (named_column (codes "r") name))
test_with Present name = is_present (column (named_column (codes "o") name))

unfoldable pub test_at : Schema → Asked → ℕ → List ℕ
test_at s asked k = condition_text (test_with asked (name_at s k))

-- whether one is missing, or all stand there
abbrev pub between : Asked → List ℕ
between Missing = codes " OR "
between Present = codes " AND "

abbrev pub tests_at : Schema → Asked → List ℕ → List ℕ
tests_at s asked [] = []
tests_at s asked (k ∷ ms) = test_at s asked k ++ flat_map (λ m. between asked ++ test_at s asked m) ms

-- ---- integers
-- whether the value of a column, by its text, is not the text of the integer that it is cast to
abbrev pub integer_test : List ℕ → List ℕ
integer_test c =
    codes "CAST(" ++ (codes "CAST(" ++ c ++ codes " AS BIGINT)") ++ codes " AS TEXT)" ++ codes " <> "
    ++ (codes "CAST(" ++ c ++ codes " AS TEXT)")

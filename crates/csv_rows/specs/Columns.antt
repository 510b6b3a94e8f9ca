-- Which attribute each column of a header stands for, or why it is no header: for `read_rows` and
-- `read_part`, by `Reading`.
use Rattle.std.specs.Prelude.{◌≡◌, ◌+◌, ℕ, if◌then◌else◌, List, [], ◌∷◌, ◌++◌, length, map, nat_eq, Option, None, Some, Result, Ok, Err}
use Rattle.std.specs.List.{list_any, position_or_len}
use Rattle.attr_sets.specs.Attributes.{Attributes, IsSubset, below, difference, IsFirstFrom}
use Rattle.attr_sets.specs.Sets.{attributes}
use Rattle.schema_model.specs.Schemas.{attribute_named}
use Rattle.dep_model.specs.Projections.{members_below}
use Rattle.csv_rows.specs.declared.header.Header.{Header}
use Rattle.csv_rows.specs.declared.header.ColumnOfAttribute.{ColumnOfAttribute}
use Rattle.csv_rows.specs.declared.refusal.RowRefusal.{RowRefusal}
use Rattle.csv_rows.specs.declared.refusal.RowRefusal.TheVariants as refusal

-- the attributes that have a column
abbrev pub with_columns : List ℕ → Attributes
with_columns columns a = list_any (nat_eq a) columns

infixl 10 ◌>>=◌
abbrev pub ◌>>=◌ : {A B : Type 0} → Result A RowRefusal → (A → Result B RowRefusal) → Result B RowRefusal
Ok a >>= f = f a
Err e >>= f = Err e

-- the attribute of a column, where the columns before it have those of a set
abbrev pub attribute_of_column : ℕ → Attributes → Option ℕ → Result ℕ RowRefusal
attribute_of_column column before None = Err (refusal.UnknownColumn column)
attribute_of_column column before (Some a) = if before a then Err (refusal.DoubleColumn column) else Ok a

-- the attributes of these fields of a header, from left to right, after those of the fields before
unfoldable pub columns_from : List (List ℕ) → List ℕ → List (List ℕ) → Result (List ℕ) RowRefusal
columns_from names before [] = Ok before
columns_from names before (field ∷ fields) = do
  a ← attribute_of_column (length before + 1) (with_columns before) (attribute_named names field)
  columns_from names (before ++ a ∷ []) fields

-- the attribute of each column of a header: its fields are different names
abbrev pub columns_of_header : List (List ℕ) → List (List ℕ) → Result (List ℕ) RowRefusal
columns_of_header names header = columns_from names [] header

-- a header in which each of n attributes has a column; else its first refusal
abbrev pub IsHeaderOf : ℕ → List (List ℕ) → List (List ℕ) → Result (List ℕ) RowRefusal → Type 0
IsHeaderOf n names header (Ok columns) =
    (columns_of_header names header ≡ Ok columns) × IsSubset (below n) (with_columns columns)
IsHeaderOf n names header (Err (refusal.MissingColumn a)) =
    (columns : List ℕ) × (columns_of_header names header ≡ Ok columns)
    × IsFirstFrom (difference (below n) (with_columns columns)) 0 a
IsHeaderOf n names header (Err e) = columns_of_header names header ≡ Err e

-- an attribute and its column, from 0
abbrev pub attribute_with_column : List ℕ → ℕ → ColumnOfAttribute
attribute_with_column columns a = record { attribute = a; column = position_or_len (nat_eq a) columns }

-- the attributes below n that have a column, ascending, each with it
abbrev pub order_of : ℕ → List ℕ → List ColumnOfAttribute
order_of n columns = map (attribute_with_column columns) (members_below n (with_columns columns))

-- what is kept of a header with these columns
pub record IsHeader (n : ℕ) (columns : List ℕ) (h : Header) : Type 0 where
  pub count : h.columns ≡ length columns
  pub scheme : attributes h.scheme ≡ with_columns columns
  pub order : h.order.items ≡ order_of n columns

-- Which type a column of given values has: for `type_of_column` and the schema of a file.
use Rattle.std.specs.Prelude.{◌≡◌, ◌<◌, ◌⊎◌, ◌↔◌, ℕ, true, Some, List, [], ◌∷◌, length, slice_get}
use Rattle.attr_sets.specs.Attributes.{Attributes, IsSubset, below}
use Rattle.column_values.specs.Values.{FitsColumn}
use Rattle.dep_model.specs.Tuples.{Relation, value_at}
use Rattle.schema_model.specs.declared.column_type.ColumnType.{ColumnType}
use Rattle.schema_model.specs.declared.column_type.ColumnType.TheVariants.{Text, Integer, Date, Timestamp, Decimal}
use Rattle.schema_model.specs.declared.column_type.ColumnType.TheVariants.{Uuid}
use Rattle.row_store.specs.Rows.{row_at}

-- the types that are tried, in this order
abbrev pub tried_types : List ColumnType
tried_types =
    Integer ∷ Decimal 0 ∷ Decimal 1 ∷ Decimal 2 ∷ Decimal 3 ∷ Decimal 4 ∷ Decimal 5 ∷ Decimal 6 ∷ Decimal 7
    ∷ Decimal 8 ∷ Decimal 9 ∷ Date ∷ Timestamp ∷ Uuid ∷ Text ∷ []

-- the value in column k of the row at a position
abbrev pub value_in : Relation → ℕ → ℕ → List ℕ
value_in rows k i = value_at (row_at rows i) k

-- a value in column k is empty
abbrev pub HasEmpty : Relation → ℕ → Type 0
HasEmpty rows k = (i : ℕ) × (i < length rows) × (value_in rows k i ≡ [])

-- each value in column k is empty
abbrev pub AllEmpty : Relation → ℕ → Type 0
AllEmpty rows k = (i : ℕ) → i < length rows → value_in rows k i ≡ []

-- all values in column k are of a type, but for empty ones
abbrev pub AllHave : Relation → ℕ → ColumnType → Type 0
AllHave rows k column = (i : ℕ) → i < length rows → FitsColumn column true (value_in rows k i)

-- the first of the types that are tried of which all values in column k are, but for empty ones
pub record IsFirstType (rows : Relation) (k : ℕ) (column : ColumnType) : Type 0 where
  pub at : ℕ
  pub tried : slice_get tried_types at ≡ Some column
  pub all : AllHave rows k column
  pub before : (i : ℕ) (other : ColumnType) → i < at → slice_get tried_types i ≡ Some other
      → AllHave rows k other → ⊥

-- the type of column k: text where all its values are empty, else the first that all but empty ones have
abbrev pub IsTypeOf : Relation → ℕ → ColumnType → Type 0
IsTypeOf rows k column =
    (AllEmpty rows k × (column ≡ Text)) ⊎ ((AllEmpty rows k → ⊥) × IsFirstType rows k column)

-- the types of the columns of rows
abbrev pub AreTypesOf : Relation → List ColumnType → Type 0
AreTypesOf rows columns =
    (k : ℕ) (column : ColumnType) → slice_get columns k ≡ Some column → IsTypeOf rows k column

-- of n columns of rows, those in which a value is empty
pub record HaveEmpty (n : ℕ) (rows : Relation) (x : Attributes) : Type 0 where
  pub within : IsSubset x (below n)
  pub each : (k : ℕ) → k < n → (x k ≡ true) ↔ HasEmpty rows k

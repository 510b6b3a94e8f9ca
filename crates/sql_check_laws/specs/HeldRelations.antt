-- A table of an engine that holds a relation: for the laws of the queries of `sql check`.
use Rattle.std.specs.Prelude.{◌≡◌, ℕ, ℤ, ◌<◌, Bool, if◌then◌else◌, Option, Some, List, [], ◌∷◌, Contains}
use Rattle.schema_model.specs.Schemas.{Schema}
use Rattle.schema_model.specs.Integers.{IsIntegerText}
use Rattle.schema_model.specs.Schemas.{width_of, nullable_of}
use Rattle.dep_model.specs.Tuples.{Tuple, Relation, value_at}
use Rattle.sql_check.specs.Columns.{name_at}
use Rattle.sql_evaluation.specs.Cells.{Cell, missing, text, integer_text, text_of}
use Rattle.sql_evaluation.specs.Values.{named_cell}
use Rattle.sql_evaluation.specs.Evaluation.{Rows, Engine}

-- a row has the values of a tuple in the columns of the attributes, whatever other columns it has
abbrev pub RowHolds : Schema → (ℕ → List ℕ → Cell) → List (List ℕ) → List Cell → Tuple → Type 0
RowHolds s cell names row t =
    (k : ℕ) → k < width_of s → named_cell names row (name_at s k) ≡ Some (cell k (value_at t k))

-- each row has the values of the tuple in its place
abbrev pub RowsHold : Schema → (ℕ → List ℕ → Cell) → List (List ℕ) → List (List Cell) → Relation → Type 0
RowsHold s cell names [] [] = Unit {0}
RowsHold s cell names (row ∷ rows) (t ∷ r) = RowHolds s cell names row t × RowsHold s cell names rows r
RowsHold s cell names rows r = ⊥

-- a value as it is compared: by its text, whatever its type
abbrev pub compared_cell : (ℕ → List ℕ → Cell) → ℕ → List ℕ → Cell
compared_cell cell k v = text_of (cell k v)

-- values of an attribute that differ are told apart where they are compared
abbrev pub AreApart : Schema → (ℕ → List ℕ → Cell) → Relation → Type 0
AreApart s cell r =
    (k : ℕ) → k < width_of s → (t u : Tuple) → Contains r t → Contains r u
    → compared_cell cell k (value_at t k) ≡ compared_cell cell k (value_at u k) → value_at t k ≡ value_at u k

-- a table of an engine holds a relation: each value of attribute k as `cell k` has it
pub record Holds (e : Engine) (table : List ℕ) (s : Schema) (cell : ℕ → List ℕ → Cell) (r : Relation) : Type 0 where
  pub given : Rows
  pub known : e.tables table ≡ Some given
  pub held : RowsHold s cell given.names given.rows r
  pub apart : AreApart s cell r

-- an engine casts the text of an integer of 64 bits to this integer, and gives such integers alone. Of
-- another text it makes an error or any of these
pub record CastsIntegers (cast : List ℕ → Option ℤ) : Type 0 where
  pub exact : (t : List ℕ) → IsIntegerText t → (n : ℤ) × (cast t ≡ Some n) × (integer_text n ≡ t)
  pub within : (t : List ℕ) (n : ℤ) → cast t ≡ Some n → IsIntegerText (integer_text n)

-- ---- missing values
-- a text in a column: the empty one is missing where values may be missing
abbrev pub held_text : Bool → List ℕ → Cell
held_text nullable [] = if nullable then missing else text []
held_text nullable (b ∷ bytes) = text (b ∷ bytes)

-- the values of a schema's columns as texts, the empty one missing in the columns in which values may be missing
abbrev pub cell_of : Schema → ℕ → List ℕ → Cell
cell_of s k v = held_text (nullable_of s k) v

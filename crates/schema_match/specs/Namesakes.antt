-- For each attribute of a schema its namesake in another: for the functions that carry a set over.
-- `Desk` does not cite it.
use Rattle.std.specs.Prelude.{◌≡◌, ℕ, ◌<◌, true, List, length, slice_index_or, Some}
use Rattle.attr_sets.specs.Attributes.{Attributes}
use Rattle.schema_model.specs.Schemas.{Schema}
use Rattle.schema_model.specs.Schemas.{width_of}
use Rattle.schema_match.specs.Columns.{namesake}

-- for each attribute of a schema, the attribute of another that has its name
pub record AreNamesakes (schema other : Schema) (namesakes : List ℕ) : Type 0 where
  pub one_each : length namesakes ≡ width_of schema
  pub named : (a : ℕ) → a < width_of schema → namesake schema other a ≡ Some (slice_index_or namesakes a 0)

-- an attribute is the namesake of a member of a set
abbrev pub IsNamesakeFrom : List ℕ → Attributes → ℕ → Type 0
IsNamesakeFrom namesakes x b =
    (a : ℕ) × (a < length namesakes) × (x a ≡ true) × (slice_index_or namesakes a 0 ≡ b)

-- Rows that show that a dependency does not follow: for `implies`, `check key` and `check keeps`.
use Rattle.column_values.specs.Values.{FitsColumns}
use Rattle.dep_model.specs.Dependencies.{Dependency, Obeys}
use Rattle.dep_model.specs.Tuples.{Relation}
use Rattle.schema_model.specs.Schemas.{Schema, width_of}

-- rows with values of the columns' types that obey what is given, and break a dependency
pub record IsCounterexample (schema : Schema) (ObeysGiven : Relation → Type 0) (d : Dependency) (rows : Relation)
    : Type 0 where
  pub fits : FitsColumns schema rows
  pub obeys : ObeysGiven rows
  pub breaks : Obeys (width_of schema) d rows → ⊥

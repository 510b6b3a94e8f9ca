-- What is told of a dependency that rows break: for `measure`, `offences` and `offences rows`.
use Rattle.std.specs.Prelude.{ℕ}
use Rattle.dep_model.specs.Dependencies.{Dependency}
use Rattle.dep_model.specs.Tuples.{Relation}
use Rattle.schema_model.specs.Schemas.{Schema}
use Rattle.desk_measures.specs.Findings.{Finding}
use Rattle.desk_measures.specs.Measures.{IsMeasured}
use Rattle.desk_measures.specs.Offences.{ArePartLines, AreRowLines}
use Rattle.desk_measures.specs.declared.telling.Told.{Told}
use Rattle.desk_measures.specs.declared.telling.Told.TheVariants as told

-- of each dependency its measure, its classes at odds, or its rows at odds
abbrev pub Tells : Told → Schema → Relation → ℕ → Dependency → Finding
Tells told.Measures schema rows = IsMeasured schema rows
Tells told.Classes schema rows = ArePartLines schema rows
Tells told.Rows schema rows = AreRowLines schema rows

-- What the queries of `sql measure` show of a relation: for the law of these queries, and for the
-- script (`sql_scripts`).
use Rattle.std.specs.Prelude.{◌≡◌, ◌↔◌, ◌==◌, ℕ, if◌then◌else◌, Some, List, [], ◌∷◌, All, MatchOption, pos}
use Rattle.schema_model.specs.Schemas.{Schema}
use Rattle.schema_model.specs.Schemas.{width_of, theory_of}
use Rattle.dep_model.specs.Dependencies.{Dependency, Obeys}
use Rattle.dep_model.specs.Tuples.{Relation}
use Rattle.row_measures.specs.Answers.{IsMeasure}
use Rattle.row_measures.specs.declared.breach.Measure.{Measure}
use Rattle.sql_syntax.specs.Syntax.{Query}
use Rattle.sql_evaluation.specs.Cells.{Cell, number}
use Rattle.sql_evaluation.specs.Evaluation.{Rows, Engine, evaluate}
use Rattle.sql_measure.specs.Measures.{measure_query}

-- a row of the three numbers of a measure
abbrev pub row_of_measure : Measure → List Cell
row_of_measure m = number (pos m.groups) ∷ number (pos m.rows) ∷ number (pos m.amount) ∷ []

-- that row where a group is broken, and else none
abbrev pub rows_of_measure : Measure → List (List Cell)
rows_of_measure m = if m.groups == 0 then [] else row_of_measure m ∷ []

-- a query ends without an error; it gives no row exactly where a relation over n attributes obeys a
-- dependency, and else the row of the measure of the relation against it, of which there is one
-- (`one_measure`)
pub record GivesMeasure (e : Engine) (q : Query) (n : ℕ) (d : Dependency) (r : Relation)
    : Type 0 where
  pub result : Rows
  pub evaluates : evaluate e q ≡ Some result
  pub none : (result.rows ≡ []) ↔ Obeys n d r
  pub measure : Measure
  pub is : IsMeasure n r d measure
  pub shows : result.rows ≡ rows_of_measure measure

-- the query of a dependency counts what breaks it; where it has none, the relation obeys it
abbrev pub MeasuresRule : Engine → Schema → List ℕ → Relation → Dependency → Type 0
MeasuresRule e s table r d =
    MatchOption (measure_query s table d) (Obeys (width_of s) d r)
    (λ q. GivesMeasure e q (width_of s) d r)

abbrev pub MeasuresRules : Engine → Schema → List ℕ → Relation → Type 0
MeasuresRules e s table r = All (MeasuresRule e s table r) (theory_of s)

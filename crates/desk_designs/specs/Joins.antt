-- Whether a plan loses nothing: for `check join`, and for `ddl plan`, `migrate plan` and `sql
-- migrate plan`.
use Rattle.std.specs.Prelude.{◌⊎◌, ℕ, List, ◌++◌, codes, Contains}
use Rattle.attr_sets.specs.Attributes.{Attributes}
use Rattle.csv_text.specs.Rows.{csv_row, rows_text}
use Rattle.chase_laws.specs.Answers.{IsClosedTableau}
use Rattle.column_values.specs.Values.{FitsColumns}
use Rattle.chase_laws.specs.Rounds.{RoundsExceed}
use Rattle.dep_model.specs.Projections.{InJoin, IsLossless, projections}
use Rattle.schema_model.specs.Schemas.{names_of, width_of, theory_of, LegalFor}
use Rattle.schema_model.specs.Schemas.{Schema}
use Rattle.dep_model.specs.Tuples.{Relation, Tuple}
use Rattle.typed_rows.specs.Shown.{shown_relation, shown_zeros}
use Rattle.tableau_chase.specs.RefusalTexts.{chase_refusal_text}
use Rattle.tableau_chase.specs.declared.outcome.ChaseRefusal.TheVariants.{TooManyRows}
use Rattle.desk_designs.specs.declared.join.TheConstants.{MOST_TABLEAU_ROWS}
use Rattle.desk_responses.specs.declared.status.Status.TheVariants.{Yes, No, Refused}
use Rattle.desk_responses.specs.ResponseValues.{Allowed, Says, Unless}
use Rattle.desk_texts.specs.Texts.{line}

-- ---- texts
abbrev pub lossless_text : List ℕ
lossless_text = line (codes "lossless")

-- a relation of numbers, as it is shown, and the tuple that it gains
abbrev pub lossy_text : Schema → Relation → List ℕ
lossy_text schema rows =
    line (codes "lossy") ++ rows_text (names_of schema) (shown_relation schema rows)
    ++ line (codes "gains") ++ csv_row (shown_zeros schema)

abbrev pub too_many_rows_text : List ℕ
too_many_rows_text = line (codes "refused: " ++ chase_refusal_text TooManyRows)

-- ---- answers
-- no legal relation loses by a plan
abbrev pub LosesNothing : Schema → List Attributes → Type 0
LosesNothing schema plan = IsLossless (width_of schema) (theory_of schema) plan

-- the chase of a plan comes to a tableau of more rows than it may have
abbrev pub IsTooLarge : Schema → List Attributes → Type 0
IsTooLarge schema plan = RoundsExceed (width_of schema) (theory_of schema) plan MOST_TABLEAU_ROWS

-- a legal relation that fits the columns, whose projections have a tuple in their join that it has not itself
pub record Gains (schema : Schema) (plan : List Attributes) (rows : Relation) (tuple : Tuple) : Type 0 where
  pub fits : FitsColumns schema rows
  pub legal : LegalFor schema rows
  pub joined : InJoin (width_of schema) plan (projections plan rows) tuple
  pub gained : Contains rows tuple → ⊥

-- a closed tableau of a plan; as it is shown, it gains the tuple that stands for all `0`
pub record ShowsLoss (schema : Schema) (plan : List Attributes) (rows : Relation) : Type 0 where
  pub closed : IsClosedTableau (width_of schema) (theory_of schema) plan MOST_TABLEAU_ROWS rows
  pub gains : Gains schema plan (shown_relation schema rows) (shown_zeros schema)

-- the chase keeps within its limit, and no legal relation loses by a plan
pub record IsShownLossless (schema : Schema) (plan : List Attributes) : Type 0 where
  pub within_limit : IsTooLarge schema plan → ⊥
  pub lossless : LosesNothing schema plan

-- how the test of a plan ends a command: refused exactly where the chase comes to too many rows; else
-- no, with a relation that shows it, exactly where something is lost
abbrev pub LossStops : Schema → List Attributes → Allowed
LossStops schema plan response =
    ((IsTooLarge schema plan → ⊥) × (LosesNothing schema plan → ⊥)
    × ((rows : Relation) × ShowsLoss schema plan rows × Says No (lossy_text schema rows) response))
    ⊎ (IsTooLarge schema plan × Says Refused too_many_rows_text response)

-- a plan loses nothing, and then the rest follows
abbrev pub WithoutLoss : Schema → List Attributes → Allowed → Allowed
WithoutLoss schema plan = Unless (LossStops schema plan) (IsShownLossless schema plan)

-- yes where a plan loses nothing
abbrev pub JudgesJoin : Schema → List Attributes → Allowed
JudgesJoin schema plan = WithoutLoss schema plan (Says Yes lossless_text)

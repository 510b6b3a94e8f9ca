-- How a goal and a set are read, and how their reading ends a command.
use Rattle.std.specs.Prelude.{◌⊎◌, ℕ, ◌<◌, ◌≤◌, List, length}
use Rattle.attr_sets.specs.Attributes.{Attributes}
use Rattle.dep_model.specs.Dependencies.{Dependency}
use Rattle.schema_model.specs.Schemas.{naming_of, names_of}
use Rattle.schema_model.specs.Schemas.{Schema}
use Rattle.schema_reader.specs.declared.goal.TheConstants.{MOST_GOAL_BYTES}
use Rattle.schema_reader.specs.declared.set.TheConstants.{MOST_SET_BYTES}
use Rattle.schema_grammar.specs.declared.refusal.SchemaRefusal.{SchemaRefusal}
use Rattle.schema_grammar.specs.Diagnostics.{RefusesGoal}
use Rattle.schema_grammar.specs.Meanings.{MeansGoal}
use Rattle.schema_grammar.specs.Sets.{MeansSet, RefusesSet}
use Rattle.desk_responses.specs.declared.status.Status.TheVariants.{Refused}
use Rattle.desk_responses.specs.ResponseValues.{Allowed, Says, With}
use Rattle.desk_texts.specs.Texts.{goal_too_long_text, set_too_long_text}
use Rattle.desk_refusals.specs.Refusals.{goal_refusal_text, set_refusal_text}

-- ---- goals
-- a goal is refused so
pub record IsRefusedGoal (schema : Schema) (goal : List ℕ) (refusal : SchemaRefusal) : Type 0 where
  pub within_limit : length goal ≤ MOST_GOAL_BYTES
  pub refused : RefusesGoal (naming_of schema) (names_of schema) goal refusal

-- a goal means this dependency
pub record IsGoal (schema : Schema) (goal : List ℕ) (dep : Dependency) : Type 0 where
  pub within_limit : length goal ≤ MOST_GOAL_BYTES
  pub means : MeansGoal (naming_of schema) (names_of schema) goal dep

-- how the reading of a goal ends a command
abbrev pub GoalStops : Schema → List ℕ → Allowed
GoalStops schema goal response =
    ((MOST_GOAL_BYTES < length goal) × Says Refused goal_too_long_text response)
    ⊎ ((refusal : SchemaRefusal) × IsRefusedGoal schema goal refusal
    × Says Refused (goal_refusal_text refusal) response)

-- a goal is read, and then the rest follows
abbrev pub WithGoal : Schema → List ℕ → (Dependency → Allowed) → Allowed
WithGoal schema goal = With (GoalStops schema goal) (IsGoal schema goal)

-- ---- sets
-- a set is refused so
pub record IsRefusedSet (schema : Schema) (set : List ℕ) (refusal : SchemaRefusal) : Type 0 where
  pub within_limit : length set ≤ MOST_SET_BYTES
  pub refused : RefusesSet (naming_of schema) (names_of schema) set refusal

-- a text means this set of attributes
pub record IsSetText (schema : Schema) (set : List ℕ) (x : Attributes) : Type 0 where
  pub within_limit : length set ≤ MOST_SET_BYTES
  pub means : MeansSet (naming_of schema) (names_of schema) set x

-- how the reading of a set ends a command
abbrev pub SetStops : Schema → List ℕ → Allowed
SetStops schema set response =
    ((MOST_SET_BYTES < length set) × Says Refused set_too_long_text response)
    ⊎ ((refusal : SchemaRefusal) × IsRefusedSet schema set refusal
    × Says Refused (set_refusal_text refusal) response)

-- a set is read, and then the rest follows
abbrev pub WithSet : Schema → List ℕ → (Attributes → Allowed) → Allowed
WithSet schema set = With (SetStops schema set) (IsSetText schema set)

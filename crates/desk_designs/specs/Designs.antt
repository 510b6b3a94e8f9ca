-- SQL tables of a plan: for `ddl`, and for what else refuses values that may be missing.
use Rattle.std.specs.Prelude.{◌≡◌, List, [], map, Some}
use Rattle.attr_sets.specs.Attributes.{Attributes}
use Rattle.attr_sets.specs.declared.set.AttrSet.{AttrSet}
use Rattle.dep_model.specs.Plans.{schemes_of}
use Rattle.schema_model.specs.Schemas.{nullable_of, theory_of, width_of}
use Rattle.schema_model.specs.Schemas.{Schema}
use Rattle.table_names.specs.TableNames.{GivenNames}
use Rattle.ddl_text.specs.declared.table.TableDesign.{TableDesign}
use Rattle.ddl_text.specs.Ddl.{ddl_text}
use Rattle.ddl_text.specs.Designs.{IsDesign, keyed}
use Rattle.ddl_text.specs.Laws.{KeysHold, OtherKeysHold, ReferencesHold}
use Rattle.design_order.specs.Order.{IsInDesignOrder}
use Rattle.dep_model.specs.declared.form.Form.{Form}
use Rattle.optional_tables.specs.Hindrances.{IsUnhindered}
use Rattle.missing_values.specs.Missing.{FindsMissing}
use Rattle.missing_values.specs.Refusals.{refusal_text}
use Rattle.missing_values.specs.declared.refusal.MissingRefusal.{MissingRefusal}
use Rattle.desk_responses.specs.declared.status.Status.TheVariants.{Refused, Yes}
use Rattle.desk_responses.specs.ResponseValues.{Allowed, Says, Unless}
use Rattle.desk_designs.specs.Decompositions.{WithPlanInForm}
use Rattle.desk_designs.specs.Joins.{WithoutLoss}

-- the design of a plan in its order, with the names that are given in this order; in the tables of every legal
-- relation its keys and references hold, whatever values are missing
pub record IsSoundDesign (schema : Schema) (names : GivenNames) (plan : List AttrSet) (tables : List TableDesign)
    : Type 0 where
  pub ordered : List AttrSet
  pub order : IsInDesignOrder (width_of schema) (theory_of schema) (schemes_of plan) (schemes_of ordered)
  pub design : IsDesign schema names ordered tables
  pub keys_hold : KeysHold schema tables
  pub other_keys_hold : OtherKeysHold schema tables
  pub references_hold : ReferencesHold schema tables

-- a sound design of a plan of these schemes, as sets of attributes
pub record IsDesignOf (schema : Schema) (names : GivenNames) (schemes : List Attributes) (tables : List TableDesign)
    : Type 0 where
  pub plan : List AttrSet
  pub same : schemes_of plan ≡ schemes
  pub sound : IsSoundDesign schema names plan tables

-- ---- missing values
-- nothing keeps the tables from being read back, whatever values are missing
abbrev pub AreReadable : Schema → GivenNames → List Attributes → Type 0
AreReadable schema names schemes =
    (tables : List TableDesign) × IsDesignOf schema names schemes tables
    × IsUnhindered (nullable_of schema) (map keyed tables)

-- how values that may be missing end a command: what is found first decides
abbrev pub MissingStops : Schema → GivenNames → List Attributes → Allowed
MissingStops schema names schemes response =
    (tables : List TableDesign) × IsDesignOf schema names schemes tables
    × ((refusal : MissingRefusal) × FindsMissing (nullable_of schema) (map keyed tables) (Some refusal)
    × Says Refused (refusal_text schema tables refusal) response)

-- the tables can be read back, and then the rest follows
abbrev pub WithoutMissing : Schema → GivenNames → List Attributes → Allowed → Allowed
WithoutMissing schema names schemes = Unless (MissingStops schema names schemes) (AreReadable schema names schemes)

-- ---- answers
-- yes, with the statements that create the tables of a plan
abbrev pub WritesTables : Schema → GivenNames → List AttrSet → Allowed
WritesTables schema names plan response =
    (tables : List TableDesign) × IsSoundDesign schema names plan tables × Says Yes (ddl_text schema tables) response

-- the same of the plan of a normal form
abbrev pub WritesForm : Schema → Form → Allowed
WritesForm schema form =
    WithPlanInForm schema form (λ plan. WithoutMissing schema [] (schemes_of plan) (WritesTables schema [] plan))

-- the same of schemes, as sets of attributes
abbrev pub WritesSchemes : Schema → GivenNames → List Attributes → Allowed
WritesSchemes schema names schemes response =
    (plan : List AttrSet) × (schemes_of plan ≡ schemes) × WritesTables schema names plan response

-- the same of a plan, where it loses nothing
abbrev pub WritesPlan : Schema → GivenNames → List Attributes → Allowed
WritesPlan schema names schemes =
    WithoutMissing schema names schemes (WithoutLoss schema schemes (WritesSchemes schema names schemes))

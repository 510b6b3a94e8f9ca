-- The tables of a plan as a picture: for `draw`.
use Rattle.std.specs.Prelude.{◌≡◌, List, []}
use Rattle.attr_sets.specs.Attributes.{Attributes}
use Rattle.attr_sets.specs.declared.set.AttrSet.{AttrSet}
use Rattle.dep_model.specs.Plans.{schemes_of}
use Rattle.schema_model.specs.Schemas.{Schema}
use Rattle.table_names.specs.TableNames.{GivenNames}
use Rattle.ddl_text.specs.declared.table.TableDesign.{TableDesign}
use Rattle.dep_model.specs.declared.form.Form.{Form}
use Rattle.table_drawing.specs.Drawing.{drawing_text}
use Rattle.desk_responses.specs.declared.status.Status.TheVariants.{Yes}
use Rattle.desk_responses.specs.ResponseValues.{Allowed, Says}
use Rattle.desk_designs.specs.Decompositions.{WithPlanInForm}
use Rattle.desk_designs.specs.Designs.{IsSoundDesign}

-- yes, with the picture of a plan's tables
abbrev pub DrawsTables : Schema → GivenNames → List AttrSet → Allowed
DrawsTables schema names plan response =
    (tables : List TableDesign) × IsSoundDesign schema names plan tables
    × Says Yes (drawing_text schema tables) response

-- the same of the plan of a normal form
abbrev pub DrawsForm : Schema → Form → Allowed
DrawsForm schema form = WithPlanInForm schema form (DrawsTables schema [])

-- the same of schemes, as sets of attributes
abbrev pub DrawsSchemes : Schema → GivenNames → List Attributes → Allowed
DrawsSchemes schema names schemes response =
    (plan : List AttrSet) × (schemes_of plan ≡ schemes) × DrawsTables schema names plan response

-- When words are answered, as the laws of `complete_pages` say it: the page of a schema. `Desk` does not cite it.
use Rattle.std.specs.Prelude.{ℕ, List, [], ◌∷◌, codes}
use Rattle.schema_model.specs.Schemas.{Schema}
use Rattle.plan_printer.specs.NamedPlans.{NamedSchemes}
use Rattle.desk_outside.specs.Files.{Files}
use Rattle.desk_inputs.specs.FileKinds.{IsFile}
use Rattle.desk_inputs.specs.Inputs.{schema_file}
use Rattle.desk_inputs.specs.Plans.{plan_file}
use Rattle.desk_inputs.specs.Readings.{known_files}
use Rattle.desk_laws.specs.Completeness.{IsAnsweredYes}

-- `report` is answered by yes where the schema file means a schema and the plan file, if one is named, a plan:
-- what a limit forbids is refused on the page (`schema`)
abbrev pub ReportIsAnsweredSchema : Type 0
ReportIsAnsweredSchema =
    (files : Files) (name : List ℕ) (schema : Schema)
    → IsFile schema_file (known_files files) name schema
    → IsAnsweredYes files (codes "report" ∷ name ∷ [])

-- `report` is answered by yes where the schema file means a schema and the plan file, if one is named, a plan:
-- what a limit forbids is refused on the page (`plan`)
abbrev pub ReportIsAnsweredPlan : Type 0
ReportIsAnsweredPlan =
    (files : Files) (name file : List ℕ) (schema : Schema) (plan : NamedSchemes)
    → IsFile schema_file (known_files files) name schema → IsFile (plan_file schema) (known_files files) file plan
    → IsAnsweredYes files (codes "report" ∷ name ∷ file ∷ [])

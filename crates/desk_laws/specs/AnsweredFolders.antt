-- When words are answered, as the laws of `complete_folders` say it: `migrate .. into`. `Desk` does not cite it.
use Rattle.std.specs.Prelude.{ℕ, IsTrue, false, List, [], ◌∷◌, codes}
use Rattle.dep_model.specs.Tuples.{Relation}
use Rattle.schema_model.specs.Schemas.{Schema}
use Rattle.dep_model.specs.declared.form.Form.{Form}
use Rattle.plan_printer.specs.NamedPlans.{NamedSchemes}
use Rattle.desk_outside.specs.Files.{Files}
use Rattle.desk_inputs.specs.FileKinds.{IsFile}
use Rattle.desk_inputs.specs.Inputs.{schema_file}
use Rattle.desk_designs.specs.Joins.{IsTooLarge}
use Rattle.desk_designs.specs.NormalForms.{form_word}
use Rattle.desk_inputs.specs.Plans.{plan_file}
use Rattle.desk_inputs.specs.Readings.{known_files}
use Rattle.desk_inputs.specs.Rows.{rows_file}
use Rattle.desk_tables.specs.OwnFolders.{Looks}
use Rattle.desk_laws.specs.Completeness.{IsAnsweredBy, HasPlanInForm, RequiresAll}

-- `migrate .. into` is answered where the schema file means a schema of which no value may be missing, the CSV
-- file has rows, a plan in the form is found within the limits, or the plan file means a plan whose chase keeps
-- within its limit, and a look finds that the folder's name is free (`in_form`)
abbrev pub MigrateIntoIsAnsweredInForm : Type 0
MigrateIntoIsAnsweredInForm =
    (form : Form) (looks : Looks) (files : Files) (name file folder : List ℕ) (schema : Schema)
    (rows : Relation)
    → IsFile schema_file (known_files files) name schema → IsFile (rows_file schema) (known_files files) file rows
    → RequiresAll schema → HasPlanInForm schema form → (IsTrue (looks folder false) → ⊥)
    → IsAnsweredBy looks files
    (codes "migrate" ∷ form_word form ∷ name ∷ file ∷ codes "into" ∷ folder ∷ [])

-- `migrate .. into` is answered where the schema file means a schema of which no value may be missing, the CSV
-- file has rows, a plan in the form is found within the limits, or the plan file means a plan whose chase keeps
-- within its limit, and a look finds that the folder's name is free (`plan`)
abbrev pub MigrateIntoIsAnsweredPlan : Type 0
MigrateIntoIsAnsweredPlan =
    (looks : Looks) (files : Files) (name planned file folder : List ℕ) (schema : Schema)
    (plan : NamedSchemes) (rows : Relation)
    → IsFile schema_file (known_files files) name schema
    → IsFile (plan_file schema) (known_files files) planned plan
    → IsFile (rows_file schema) (known_files files) file rows
    → RequiresAll schema → (IsTooLarge schema plan.schemes → ⊥) → (IsTrue (looks folder false) → ⊥)
    → IsAnsweredBy looks files
    (codes "migrate" ∷ codes "plan" ∷ name ∷ planned ∷ file ∷ codes "into" ∷ folder ∷ [])

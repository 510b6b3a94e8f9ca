-- When words are answered, as the laws of `complete_scripts` say it: scripts and pictures. `Desk` does not cite it.
use Rattle.std.specs.Prelude.{◌≡◌, None, ℕ, List, [], ◌∷◌, IsTrue, codes}
use Rattle.schema_model.specs.Schemas.{Schema}
use Rattle.dep_model.specs.declared.form.Form.{Form}
use Rattle.plan_printer.specs.NamedPlans.{NamedSchemes}
use Rattle.desk_outside.specs.Files.{Files}
use Rattle.sql_scripts.specs.Naming.{is_table_name, met_name}
use Rattle.desk_inputs.specs.FileKinds.{IsFile}
use Rattle.desk_inputs.specs.Inputs.{schema_file}
use Rattle.desk_designs.specs.Joins.{IsTooLarge}
use Rattle.desk_designs.specs.NormalForms.{form_word}
use Rattle.desk_inputs.specs.Plans.{plan_file}
use Rattle.desk_inputs.specs.Readings.{known_files}
use Rattle.desk_laws.specs.Completeness.{IsAnswered, HasPlanInForm, RequiresAll}

-- `sql check` is answered where the schema file means a schema and the word names a table
abbrev pub SqlCheckIsAnswered : Type 0
SqlCheckIsAnswered =
    (files : Files) (name table : List ℕ) (schema : Schema)
    → IsFile schema_file (known_files files) name schema
    → IsTrue (is_table_name table)
    → IsAnswered files (codes "sql" ∷ codes "check" ∷ name ∷ table ∷ [])

-- `sql measure` is answered where the schema file means a schema and the word names a table
abbrev pub SqlMeasureIsAnswered : Type 0
SqlMeasureIsAnswered =
    (files : Files) (name table : List ℕ) (schema : Schema)
    → IsFile schema_file (known_files files) name schema
    → IsTrue (is_table_name table)
    → IsAnswered files (codes "sql" ∷ codes "measure" ∷ name ∷ table ∷ [])

-- `sql migrate` is answered where the schema file means a schema of which no value may be missing, the word
-- names a table, and a plan in the form is found within the limits, or the plan file means a plan whose chase
-- keeps within its limit, and that names no table as the word does (`in_form`)
abbrev pub SqlMigrateIsAnsweredInForm : Type 0
SqlMigrateIsAnsweredInForm =
    (form : Form) (files : Files) (name table : List ℕ) (schema : Schema)
    → IsFile schema_file (known_files files) name schema → IsTrue (is_table_name table)
    → RequiresAll schema → HasPlanInForm schema form
    → IsAnswered files (codes "sql" ∷ codes "migrate" ∷ form_word form ∷ name ∷ table ∷ [])

-- `sql migrate` is answered where the schema file means a schema of which no value may be missing, the word
-- names a table, and a plan in the form is found within the limits, or the plan file means a plan whose chase
-- keeps within its limit, and that names no table as the word does (`plan`)
abbrev pub SqlMigrateIsAnsweredPlan : Type 0
SqlMigrateIsAnsweredPlan =
    (files : Files) (name file table : List ℕ) (schema : Schema) (plan : NamedSchemes)
    → IsFile schema_file (known_files files) name schema → IsFile (plan_file schema) (known_files files) file plan
    → IsTrue (is_table_name table) → met_name plan.names table ≡ None
    → RequiresAll schema → (IsTooLarge schema plan.schemes → ⊥)
    → IsAnswered files (codes "sql" ∷ codes "migrate" ∷ codes "plan" ∷ name ∷ file ∷ table ∷ [])

-- `draw` is answered where the schema file means a schema, and a plan in the form is found within the limits, or
-- the plan file means a plan (`in_form`)
abbrev pub DrawIsAnsweredInForm : Type 0
DrawIsAnsweredInForm =
    (form : Form) (files : Files) (name : List ℕ) (schema : Schema)
    → IsFile schema_file (known_files files) name schema → HasPlanInForm schema form
    → IsAnswered files (codes "draw" ∷ form_word form ∷ name ∷ [])

-- `draw` is answered where the schema file means a schema, and a plan in the form is found within the limits, or
-- the plan file means a plan (`plan`)
abbrev pub DrawIsAnsweredPlan : Type 0
DrawIsAnsweredPlan =
    (files : Files) (name file : List ℕ) (schema : Schema) (plan : NamedSchemes)
    → IsFile schema_file (known_files files) name schema → IsFile (plan_file schema) (known_files files) file plan
    → IsAnswered files (codes "draw" ∷ codes "plan" ∷ name ∷ file ∷ [])

-- Where the inputs of the commands that print scripts and pictures have their meaning, they answer yes or no.
use Rattle.std.proofs.Common.{ℕ, List, [], ◌∷◌, inl, inr, ap, ◌≡◌, None, Some, sym, ◌∙◌}
use Rattle.std.specs.Prelude.{codes, IsTrue}
use Rattle.attr_sets.specs.declared.set.AttrSet.{AttrSet}
use Rattle.dep_model.specs.Plans.{schemes_of}
use Rattle.schema_model.specs.Schemas.{Schema}
use Rattle.dep_model.specs.declared.form.Form.{Form}
use Rattle.dep_model.specs.declared.form.Form.TheVariants.{Third, Bcnf, Fourth}
use Rattle.table_names.specs.TableNames.{GivenNames}
use Rattle.plan_printer.specs.NamedPlans.{NamedSchemes}
use Rattle.desk_outside.specs.Files.{Files}
use Rattle.sql_scripts.specs.Naming.{is_table_name, met_name}
use Rattle.desk_responses.specs.ResponseValues.{Unless, ResponseValue, Allowed}
use Rattle.desk_designs.specs.Decompositions.{WithPlanInForm}
use Rattle.desk_designs.specs.Drawings.{DrawsTables, DrawsSchemes}
use Rattle.desk_words.specs.Forms.{form_of, form_over_schema, after_sql, after_sql_migrate, after_draw, normal_form, schema_alone, schema_and_word, schema_and_plan, schema_and_plan_and_word}
use Rattle.desk_inputs.specs.FileKinds.{IsFile, WithFile}
use Rattle.desk_inputs.specs.Inputs.{schema_file}
use Rattle.desk_designs.specs.Joins.{WithoutLoss, IsTooLarge}
use Rattle.desk_designs.specs.NormalForms.{form_word}
use Rattle.desk_cli.specs.Performs.{Answers, Performs, Does, AnswersSchema, AnswersPlan}
use Rattle.desk_inputs.specs.Plans.{plan_file}
use Rattle.desk_inputs.specs.Readings.{known_files}
use Rattle.desk_scripts.specs.Scripts.{MetNameStops, AsksTable, MakesSchemes, MakesTables, MeasuresTable, ScriptsMigrationByPlan, WithTableName}
use Rattle.desk_designs.specs.Designs.{WithoutMissing}
use Rattle.desk_laws.specs.Completeness.{IsYesOrNo, IsAnswered, HasPlanInForm, RequiresAll}
use Rattle.desk_laws.proofs.CompleteLaws.{after_schema, after_plan}
use Rattle.desk_laws.proofs.TableLaws.{after_form, after_loss, after_missing, form_answered}
use Rattle.desk_tables.specs.OwnFolders.{Looks}

-- ---- steps and answers
after_name : (table : List ℕ) (rest : Allowed) (response : ResponseValue) → IsTrue (is_table_name table)
    → (rest response → IsYesOrNo response.status) → WithTableName table rest response → IsYesOrNo response.status
after_name table rest response is go (inl exit) = absurd (exit.0 is)
after_name table rest response is go (inr (named, more)) = go more

after_other : (names : GivenNames) (table : List ℕ) (rest : Allowed) (response : ResponseValue)
    → met_name names table ≡ None → (rest response → IsYesOrNo response.status)
    → Unless (MetNameStops names table) (met_name names table ≡ None) rest response
    → IsYesOrNo response.status
after_other names table rest response other go (inl (met, is, says)) = let never : Some met ≡ None = sym is ∙ other in cc
after_other names table rest response other go (inr (free, more)) = go more

MakesTables-yes_or_no : (r : Schema) (names : GivenNames) (table : List ℕ) (plan : List AttrSet) (response : ResponseValue) → MakesTables r names table plan response → IsYesOrNo response.status
MakesTables-yes_or_no r names table plan response found = inl (ap (λ (a : ResponseValue). a.status) found.2.1)

DrawsTables-yes_or_no : (names : GivenNames) (r : Schema) (plan : List AttrSet) (response : ResponseValue) → DrawsTables r names plan response → IsYesOrNo response.status
DrawsTables-yes_or_no names r plan response found = inl (ap (λ (a : ResponseValue). a.status) found.2)

-- ---- `sql check`
sql_check_asks : (files : Files) (name table : List ℕ) (looks : Looks) (response : ResponseValue)
    → Answers looks (known_files files) (codes "sql" ∷ codes "check" ∷ name ∷ table ∷ []) response
    → WithFile schema_file (known_files files) name (λ r. WithTableName table (AsksTable r table)) response
unfolding form_of form_over_schema after_sql schema_and_word Performs Does AnswersSchema
sql_check_asks files name table looks response answered = answered

pub sql_check_answered : (files : Files) (name table : List ℕ) (schema : Schema) → IsFile schema_file (known_files files) name schema
    → IsTrue (is_table_name table) → IsAnswered files (codes "sql" ∷ codes "check" ∷ name ∷ table ∷ [])
sql_check_answered files name table schema file is looks response answered =
    after_name table (AsksTable schema table) response is (λ found. inl (ap (λ (a : ResponseValue). a.status) found.1))
    (after_schema files name schema (λ r. WithTableName table (AsksTable r table)) response file
    (sql_check_asks files name table looks response answered))

-- ---- `sql measure`
sql_measure_asks : (files : Files) (name table : List ℕ) (looks : Looks) (response : ResponseValue)
    → Answers looks (known_files files) (codes "sql" ∷ codes "measure" ∷ name ∷ table ∷ []) response
    → WithFile schema_file (known_files files) name (λ r. WithTableName table (MeasuresTable r table)) response
unfolding form_of form_over_schema after_sql schema_and_word Performs Does AnswersSchema
sql_measure_asks files name table looks response answered = answered

pub sql_measure_answered : (files : Files) (name table : List ℕ) (schema : Schema) → IsFile schema_file (known_files files) name schema
    → IsTrue (is_table_name table) → IsAnswered files (codes "sql" ∷ codes "measure" ∷ name ∷ table ∷ [])
sql_measure_answered files name table schema file is looks response answered =
    after_name table (MeasuresTable schema table) response is (λ found. inl (ap (λ (a : ResponseValue). a.status) found.1))
    (after_schema files name schema (λ r. WithTableName table (MeasuresTable r table)) response file
    (sql_measure_asks files name table looks response answered))

-- ---- `sql migrate`
-- the script of a plan, where no value is missing in its tables where it must not be
abbrev MakesRequired : List ℕ → Schema → List AttrSet → Allowed
MakesRequired table r plan = WithoutMissing r [] (schemes_of plan) (MakesTables r [] table plan)

sql_migrate_asks : (form : Form) (files : Files) (name table : List ℕ) (looks : Looks) (response : ResponseValue)
    → Answers looks (known_files files) (codes "sql" ∷ codes "migrate" ∷ form_word form ∷ name ∷ table ∷ []) response
    → WithFile schema_file (known_files files) name (λ r. WithTableName table (WithPlanInForm r form (MakesRequired table r))) response
unfolding form_of form_over_schema after_sql after_sql_migrate normal_form schema_and_word Performs Does AnswersSchema
sql_migrate_asks Third files name table looks response answered = answered
sql_migrate_asks Bcnf files name table looks response answered = answered
sql_migrate_asks Fourth files name table looks response answered = answered

pub sql_migrate_answered : (form : Form) (files : Files) (name table : List ℕ)
    → (schema : Schema) → IsFile schema_file (known_files files) name schema → IsTrue (is_table_name table)
    → RequiresAll schema → HasPlanInForm schema form
    → IsAnswered files (codes "sql" ∷ codes "migrate" ∷ form_word form ∷ name ∷ table ∷ [])
sql_migrate_answered form files name table schema file is none can looks response answered =
    after_name table (WithPlanInForm schema form (MakesRequired table schema)) response is
    (λ named. after_form schema form (MakesRequired table schema) response can
    (λ plan found. after_missing schema [] (schemes_of plan) (MakesTables schema [] table plan) response none
    (MakesTables-yes_or_no schema [] table plan response) found) named)
    (after_schema files name schema (λ r. WithTableName table (WithPlanInForm r form (MakesRequired table r))) response file
    (sql_migrate_asks form files name table looks response answered))

sql_plan_asks : (files : Files) (name file table : List ℕ) (looks : Looks) (response : ResponseValue)
    → Answers looks (known_files files) (codes "sql" ∷ codes "migrate" ∷ codes "plan" ∷ name ∷ file ∷ table ∷ []) response
    → WithFile schema_file (known_files files) name (λ r. WithFile (plan_file r) (known_files files) file
    (λ p. ScriptsMigrationByPlan r p.names p.schemes table)) response
unfolding form_of form_over_schema after_sql after_sql_migrate schema_and_plan_and_word Performs Does AnswersPlan
sql_plan_asks files name file table looks response answered = answered

pub sql_plan_answered : (files : Files) (name file table : List ℕ) (schema : Schema) (plan : NamedSchemes)
    → IsFile schema_file (known_files files) name schema → IsFile (plan_file schema) (known_files files) file plan → IsTrue (is_table_name table)
    → met_name plan.names table ≡ None
    → RequiresAll schema → (IsTooLarge schema plan.schemes → ⊥)
    → IsAnswered files (codes "sql" ∷ codes "migrate" ∷ codes "plan" ∷ name ∷ file ∷ table ∷ [])
sql_plan_answered files name file table schema plan held_schema held_plan is_name other none small looks response answered =
    let makes = MakesSchemes schema plan.names table plan.schemes in
    let kept = WithoutMissing schema plan.names plan.schemes (WithoutLoss schema plan.schemes makes) in
    after_name table (Unless (MetNameStops plan.names table) (met_name plan.names table ≡ None) kept) response is_name
    (λ named. after_other plan.names table kept response other
    (λ found. after_missing schema plan.names plan.schemes (WithoutLoss schema plan.schemes makes) response none
    (λ stands. after_loss schema plan.schemes makes response small
    (λ made. MakesTables-yes_or_no schema plan.names table made.0 response made.2) stands) found) named)
    (after_plan files schema file plan (λ p. ScriptsMigrationByPlan schema p.names p.schemes table) response held_plan
    (after_schema files name schema
    (λ r. WithFile (plan_file r) (known_files files) file (λ p. ScriptsMigrationByPlan r p.names p.schemes table)) response held_schema
    (sql_plan_asks files name file table looks response answered)))

-- ---- `draw`
draw_asks : (form : Form) (files : Files) (name : List ℕ) (looks : Looks) (response : ResponseValue)
    → Answers looks (known_files files) (codes "draw" ∷ form_word form ∷ name ∷ []) response
    → WithFile schema_file (known_files files) name (λ r. WithPlanInForm r form (DrawsTables r [])) response
unfolding form_of form_over_schema after_draw normal_form schema_alone Performs Does AnswersSchema
draw_asks Third files name looks response answered = answered
draw_asks Bcnf files name looks response answered = answered
draw_asks Fourth files name looks response answered = answered

pub draw_answered : (form : Form) (files : Files) (name : List ℕ)
    → (schema : Schema) → IsFile schema_file (known_files files) name schema → HasPlanInForm schema form
    → IsAnswered files (codes "draw" ∷ form_word form ∷ name ∷ [])
draw_answered form files name =
    form_answered files (codes "draw" ∷ form_word form ∷ name ∷ []) name form (λ r. DrawsTables r []) (DrawsTables-yes_or_no [])
    (draw_asks form files name)

draw_plan_asks : (files : Files) (name file : List ℕ) (looks : Looks) (response : ResponseValue)
    → Answers looks (known_files files) (codes "draw" ∷ codes "plan" ∷ name ∷ file ∷ []) response
    → WithFile schema_file (known_files files) name (λ r. WithFile (plan_file r) (known_files files) file (λ p. DrawsSchemes r p.names p.schemes)) response
unfolding form_of form_over_schema after_draw schema_and_plan Performs Does AnswersPlan
draw_plan_asks files name file looks response answered = answered

pub draw_plan_answered : (files : Files) (name file : List ℕ) (schema : Schema) (plan : NamedSchemes)
    → IsFile schema_file (known_files files) name schema → IsFile (plan_file schema) (known_files files) file plan
    → IsAnswered files (codes "draw" ∷ codes "plan" ∷ name ∷ file ∷ [])
draw_plan_answered files name file schema plan held_schema held_plan looks response answered =
    let found = after_plan files schema file plan (λ p. DrawsSchemes schema p.names p.schemes) response held_plan
    (after_schema files name schema (λ r. WithFile (plan_file r) (known_files files) file (λ p. DrawsSchemes r p.names p.schemes)) response held_schema
    (draw_plan_asks files name file looks response answered)) in
    DrawsTables-yes_or_no plan.names schema found.0 response found.2

-- Where the inputs of `migrate .. into` have their meaning and its folder is free, it answers yes or no.
use Rattle.std.proofs.Common.{ℕ, false, true, List, [], ◌∷◌, inl, inr, ap, sym, subst}
use Rattle.std.specs.Prelude.{codes, IsTrue}
use Rattle.attr_sets.specs.declared.set.AttrSet.{AttrSet}
use Rattle.dep_model.specs.Plans.{schemes_of}
use Rattle.dep_model.specs.Tuples.{Relation}
use Rattle.schema_model.specs.Schemas.{Schema}
use Rattle.dep_model.specs.declared.form.Form.{Form}
use Rattle.dep_model.specs.declared.form.Form.TheVariants.{Third, Bcnf, Fourth}
use Rattle.table_names.specs.TableNames.{GivenNames}
use Rattle.plan_printer.specs.NamedPlans.{NamedSchemes}
use Rattle.desk_cli.specs.Performs.{Answers, Does, Performs}
use Rattle.desk_designs.specs.Designs.{WithoutMissing}
use Rattle.desk_designs.specs.Joins.{IsTooLarge, WithoutLoss}
use Rattle.desk_designs.specs.NormalForms.{form_word}
use Rattle.desk_inputs.specs.FileKinds.{IsFile, WithFile}
use Rattle.desk_inputs.specs.Inputs.{schema_file}
use Rattle.desk_inputs.specs.Plans.{plan_file}
use Rattle.desk_inputs.specs.Readings.{known_files}
use Rattle.desk_inputs.specs.Rows.{rows_file}
use Rattle.desk_outside.specs.Files.{Files}
use Rattle.desk_responses.specs.ResponseValues.{Allowed, ResponseValue, Unless}
use Rattle.desk_tables.specs.OwnFolders.{FolderStops, Looks, MigratesInto, MigratesPlanInto, MigratesRowsInto, MigratesSchemesInto}
use Rattle.desk_words.specs.Forms.{form_of, form_over_rows, form_over_schema, after_migrate, after_migrate_form, after_migrate_plan, normal_form}
use Rattle.desk_laws.specs.Completeness.{IsYesOrNo, IsAnsweredBy, HasPlanInForm, RequiresAll}
use Rattle.desk_laws.proofs.CompleteLaws.{after_plan, after_rows, after_schema}
use Rattle.desk_laws.proofs.TableLaws.{after_form, after_loss, after_missing, MigratesRows-yes_or_no}

rows_into : (r : Schema) (names : GivenNames) (plan : List AttrSet) (folder : List ℕ) (rows : Relation) (response : ResponseValue)
    → MigratesRowsInto r names plan folder rows response → IsYesOrNo response.status
rows_into r names plan folder rows response (own, is, (plain, answers, says)) =
    subst IsYesOrNo (sym (ap (λ (a : ResponseValue). a.status) says)) (MigratesRows-yes_or_no r names (schemes_of plan) rows plain answers)

-- a folder for the tables alone, and then the rest
abbrev WithFreeFolder : Looks → List ℕ → Allowed → Allowed
WithFreeFolder looks folder rest = Unless (FolderStops looks folder) (IsTrue (looks folder true)) rest

free_folder : (looks : Looks) (folder : List ℕ) (rest : Allowed) (response : ResponseValue)
    → (IsTrue (looks folder false) → ⊥) → WithFreeFolder looks folder rest response → rest response
free_folder looks folder rest response free (inl (taken, says)) = absurd (free taken)
free_folder looks folder rest response free (inr (is, answers)) = answers

form_asks : (form : Form) (files : Files) (name file folder : List ℕ) (looks : Looks) (response : ResponseValue)
    → Answers looks (known_files files) (codes "migrate" ∷ form_word form ∷ name ∷ file ∷ codes "into" ∷ folder ∷ []) response
    → WithFile schema_file (known_files files) name
    (λ r. WithFile (rows_file r) (known_files files) file (MigratesInto looks r form folder)) response
unfolding form_of form_over_schema form_over_rows after_migrate after_migrate_form normal_form Performs Does
form_asks Third files name file folder looks response answered = answered
form_asks Bcnf files name file folder looks response answered = answered
form_asks Fourth files name file folder looks response answered = answered

pub form_into_answered : (form : Form) (looks : Looks) (files : Files) (name file folder : List ℕ) (schema : Schema)
    (rows : Relation)
    → IsFile schema_file (known_files files) name schema → IsFile (rows_file schema) (known_files files) file rows
    → RequiresAll schema → HasPlanInForm schema form → (IsTrue (looks folder false) → ⊥)
    → IsAnsweredBy looks files (codes "migrate" ∷ form_word form ∷ name ∷ file ∷ codes "into" ∷ folder ∷ [])
form_into_answered form looks files name file folder schema rows held_schema held_rows none can free response answered =
    let moves : List AttrSet → Allowed = λ plan. MigratesRowsInto schema [] plan folder rows in
    after_form schema form (λ plan. WithoutMissing schema [] (schemes_of plan) (WithFreeFolder looks folder (moves plan))) response can
    (λ plan found. after_missing schema [] (schemes_of plan) (WithFreeFolder looks folder (moves plan)) response none
    (λ stands. rows_into schema [] plan folder rows response (free_folder looks folder (moves plan) response free stands)) found)
    (after_rows files schema file rows (MigratesInto looks schema form folder) response held_rows
    (after_schema files name schema
    (λ r. WithFile (rows_file r) (known_files files) file (MigratesInto looks r form folder)) response held_schema
    (form_asks form files name file folder looks response answered)))

plan_asks : (files : Files) (name planned file folder : List ℕ) (looks : Looks) (response : ResponseValue)
    → Answers looks (known_files files) (codes "migrate" ∷ codes "plan" ∷ name ∷ planned ∷ file ∷ codes "into" ∷ folder ∷ []) response
    → WithFile schema_file (known_files files) name
    (λ r. WithFile (plan_file r) (known_files files) planned
    (λ plan. WithFile (rows_file r) (known_files files) file (MigratesPlanInto looks r plan.names plan.schemes folder))) response
unfolding form_of form_over_schema form_over_rows after_migrate after_migrate_plan Performs Does
plan_asks files name planned file folder looks response answered = answered

pub plan_into_answered : (looks : Looks) (files : Files) (name planned file folder : List ℕ) (schema : Schema)
    (plan : NamedSchemes) (rows : Relation)
    → IsFile schema_file (known_files files) name schema
    → IsFile (plan_file schema) (known_files files) planned plan
    → IsFile (rows_file schema) (known_files files) file rows
    → RequiresAll schema → (IsTooLarge schema plan.schemes → ⊥) → (IsTrue (looks folder false) → ⊥)
    → IsAnsweredBy looks files (codes "migrate" ∷ codes "plan" ∷ name ∷ planned ∷ file ∷ codes "into" ∷ folder ∷ [])
plan_into_answered looks files name planned file folder schema plan rows held_schema held_plan held_rows none small free
    response answered =
    let moves = MigratesSchemesInto schema plan.names plan.schemes folder rows in
    let kept = WithoutLoss schema plan.schemes moves in
    after_missing schema plan.names plan.schemes (WithFreeFolder looks folder kept) response none
    (λ stands. after_loss schema plan.schemes moves response small
    (λ gives. rows_into schema plan.names gives.0 folder rows response gives.2)
    (free_folder looks folder kept response free stands))
    (after_rows files schema file rows (MigratesPlanInto looks schema plan.names plan.schemes folder) response held_rows
    (after_plan files schema planned plan
    (λ p. WithFile (rows_file schema) (known_files files) file (MigratesPlanInto looks schema p.names p.schemes folder)) response held_plan
    (after_schema files name schema
    (λ r. WithFile (plan_file r) (known_files files) planned
    (λ p. WithFile (rows_file r) (known_files files) file (MigratesPlanInto looks r p.names p.schemes folder))) response held_schema
    (plan_asks files name planned file folder looks response answered))))

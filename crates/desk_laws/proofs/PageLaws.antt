-- Where the schema file means a schema, and the plan file a plan, a page is answered, and by yes.
use Rattle.std.proofs.Common.{◌≡◌, ℕ, List, [], ◌∷◌, Result, Ok, ap, ◌∙◌}
use Rattle.std.specs.Prelude.{codes}
use Rattle.dep_model.specs.declared.memory.OutOfMemory.{OutOfMemory}
use Rattle.schema_model.specs.Schemas.{Schema}
use Rattle.plan_printer.specs.NamedPlans.{NamedSchemes}
use Rattle.desk_outside.specs.Files.{Files}
use Rattle.desk_responses.specs.ResponseValues.{ResponseValue}
use Rattle.desk_responses.specs.declared.status.Status.{Status}
use Rattle.desk_responses.specs.declared.status.Status.TheVariants.{Yes}
use Rattle.desk_words.specs.Forms.{after_report, form_of, form_over_schema}
use Rattle.desk_inputs.specs.FileKinds.{IsFile, WithFile}
use Rattle.desk_inputs.specs.Inputs.{schema_file}
use Rattle.desk_inputs.specs.Plans.{plan_file}
use Rattle.desk_inputs.specs.Readings.{known_files}
use Rattle.desk_reports.specs.Reports.{ReportsPlan, ReportsSchema}
use Rattle.desk_cli.specs.Desk.{Desk, FileSourceInCall, SinkInCall, looks_in}
use Rattle.desk_cli.specs.Performs.{Answers, Does, Performs}
use Rattle.desk_delivery.specs.Outcomes.{DestinationsInCall, FolderInCall}
use Rattle.desk_tables.specs.OwnFolders.{Looks}
use Rattle.desk_laws.specs.Completeness.{FailsNowhere, IsAnsweredYes}
use Rattle.desk_laws.proofs.CompleteLaws.{after_plan, after_schema}

pub yes_calls_end : (words : List (List ℕ)) (files : Files) (source : FileSourceInCall)
    (sink notices : SinkInCall) (destinations : DestinationsInCall) (own : FolderInCall) (result : Result Status OutOfMemory)
    → Desk words source sink notices destinations own result → FailsNowhere files source sink destinations own
    → IsAnsweredYes files words → (status : Status) → result ≡ Ok status → status ≡ Yes
yes_calls_end words files source sink notices destinations own result desk nowhere answered status is =
    let delivers = desk.complete files nowhere.holds nowhere.reads nowhere.writes nowhere.writes_tables
    status is in
    delivers.2 ∙ answered (looks_in own) delivers.0 delivers.1

-- a page is an answer of yes
pub page_says_yes : (file : List ℕ) (s : Schema) (response : ResponseValue) → ReportsSchema file s response
    → response.status ≡ Yes
page_says_yes file s response page = ap (λ (r : ResponseValue). r.status) page.2

pub plan_page_says_yes : (file planned : List ℕ) (s : Schema) (plan : NamedSchemes) (response : ResponseValue)
    → ReportsPlan file planned s plan response → response.status ≡ Yes
plan_page_says_yes file planned s plan response page = ap (λ (r : ResponseValue). r.status) page.2

schema_page_asks : (files : Files) (name : List ℕ) (looks : Looks) (response : ResponseValue)
    → Answers looks (known_files files) (codes "report" ∷ name ∷ []) response
    → WithFile schema_file (known_files files) name (ReportsSchema name) response
unfolding form_of form_over_schema after_report Performs Does
schema_page_asks files name looks response answered = answered

pub schema_page_answered : (files : Files) (name : List ℕ) (schema : Schema)
    → IsFile schema_file (known_files files) name schema → IsAnsweredYes files (codes "report" ∷ name ∷ [])
schema_page_answered files name schema file looks response answered =
    page_says_yes name schema response
    (after_schema files name schema (ReportsSchema name) response file (schema_page_asks files name looks response answered))

plan_page_asks : (files : Files) (name file : List ℕ) (looks : Looks) (response : ResponseValue)
    → Answers looks (known_files files) (codes "report" ∷ name ∷ file ∷ []) response
    → WithFile schema_file (known_files files) name
    (λ r. WithFile (plan_file r) (known_files files) file (ReportsPlan name file r)) response
unfolding form_of form_over_schema after_report Performs Does
plan_page_asks files name file looks response answered = answered

pub plan_page_answered : (files : Files) (name file : List ℕ) (schema : Schema) (plan : NamedSchemes)
    → IsFile schema_file (known_files files) name schema → IsFile (plan_file schema) (known_files files) file plan
    → IsAnsweredYes files (codes "report" ∷ name ∷ file ∷ [])
plan_page_answered files name file schema plan held_schema held_plan looks response answered =
    plan_page_says_yes name file schema plan response
    (after_plan files schema file plan (ReportsPlan name file schema) response held_plan
    (after_schema files name schema
    (λ r. WithFile (plan_file r) (known_files files) file (ReportsPlan name file r)) response held_schema
    (plan_page_asks files name file looks response answered)))

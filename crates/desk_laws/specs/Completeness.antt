-- Words that are answered, and calls in which nothing fails: for the laws of desk_laws. `Desk` does
-- not cite it.
use Rattle.std.specs.Prelude.{◌≡◌, ◌⊎◌, ℕ, true, List, Some}
use Rattle.attr_sets.specs.Attributes.{Attributes}
use Rattle.schema_model.specs.Schemas.{width_of, theory_of, nullable_of}
use Rattle.schema_model.specs.Schemas.{Schema}
use Rattle.dep_model.specs.declared.form.Form.{Form}
use Rattle.dep_model.specs.declared.form.Form.TheVariants.{Third, Bcnf, Fourth}
use Rattle.split_forms.specs.Splitting.{IsTooWideAt, HasTooManySchemes}
use Rattle.desk_designs.specs.declared.decomposition.TheConstants.{MOST_SPLIT_SCHEMES}
use Rattle.desk_outside.specs.Causes.{ErrorCountIncreased}
use Rattle.desk_outside.specs.Files.{Files}
use Rattle.desk_responses.specs.declared.status.Status.{Status}
use Rattle.desk_responses.specs.declared.status.Status.TheVariants.{Yes, No}
use Rattle.desk_responses.specs.ResponseValues.{ResponseValue}
use Rattle.desk_tables.specs.Overwriting.{IsTableFile}
use Rattle.desk_tables.specs.OwnFolders.{Looks}
use Rattle.table_names.specs.TableNames.{GivenNames}
use Rattle.desk_cli.specs.Desk.{FileSourceInCall, SinkInCall}
use Rattle.desk_delivery.specs.Outcomes.{DestinationsInCall, FolderInCall, NoneFails}
use Rattle.desk_cli.specs.Performs.{Answers}
use Rattle.desk_inputs.specs.Readings.{known_files}

-- yes or no
abbrev pub IsYesOrNo : Status → Type 0
IsYesOrNo status = (status ≡ Yes) ⊎ (status ≡ No)

-- over these files, where looks at names may be answered so, each answer that the words may have is yes or no
abbrev pub IsAnsweredBy : Looks → Files → List (List ℕ) → Type 0
IsAnsweredBy looks files words =
    (response : ResponseValue) → Answers looks (known_files files) words response → IsYesOrNo response.status

-- the same whatever looks at names are answered
abbrev pub IsAnswered : Files → List (List ℕ) → Type 0
IsAnswered files words = (looks : Looks) → IsAnsweredBy looks files words

-- over these files each answer that the words may have is yes
abbrev pub IsAnsweredYes : Files → List (List ℕ) → Type 0
IsAnsweredYes files words =
    (looks : Looks) (response : ResponseValue) → Answers looks (known_files files) words response
    → response.status ≡ Yes

-- it is known that the file source holds these files, and no error count increased
pub record FailsNowhere (files : Files) (source : FileSourceInCall) (sink : SinkInCall)
    (destinations : DestinationsInCall) (own : FolderInCall) : Type 0 where
  pub holds : source.files ≡ Some files
  pub reads : ErrorCountIncreased source.before source.after → ⊥
  pub writes : ErrorCountIncreased sink.before sink.after → ⊥
  pub writes_tables : NoneFails destinations own

-- splitting a schema comes to no scheme that is too wide, and to no more schemes than are allowed
pub record IsSplittable (schema : Schema) (form : Form) : Type 0 where
  pub narrow : (scheme : Attributes)
      → IsTooWideAt (width_of schema) (theory_of schema) form MOST_SPLIT_SCHEMES scheme → ⊥
  pub within_limit : HasTooManySchemes (width_of schema) (theory_of schema) form MOST_SPLIT_SCHEMES → ⊥

-- a plan in a normal form is found within the limits; for third normal form there are none
abbrev pub HasPlanInForm : Schema → Form → Type 0
HasPlanInForm schema Third = Unit {0}
HasPlanInForm schema Bcnf = IsSplittable schema Bcnf
HasPlanInForm schema Fourth = IsSplittable schema Fourth

-- no value of a row of a schema may be missing
abbrev pub RequiresAll : Schema → Type 0
RequiresAll schema = (a : ℕ) → nullable_of schema a ≡ true → ⊥

-- no table has a file of this name, where these names are given to tables
abbrev pub NamesNoTable : GivenNames → List ℕ → Type 0
NamesNoTable names name = (tables : ℕ) → IsTableFile names tables name → ⊥

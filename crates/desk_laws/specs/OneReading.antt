-- When a text has one reading, and words one answer: for the laws of `one_answer`. `Desk` does not cite it.
use Rattle.std.specs.Prelude.{◌≡◌, ◌⊎◌, ℕ, List, Some, length}
use Rattle.schema_model.specs.Schemas.{Schema}
use Rattle.headed_rows.specs.Headings.{HeadedRows}
use Rattle.implication_laws.specs.OneAnswer.{AreBothYes, HasFixedProof}
use Rattle.desk_discovery.specs.Discoveries.{RefusesRules}
use Rattle.desk_discovery.specs.KeyDiscoveries.{RefusesRowKeys}
use Rattle.desk_inputs.specs.FileKinds.{IsFile}
use Rattle.desk_inputs.specs.Headed.{headed_file}
use Rattle.desk_inputs.specs.Inputs.{schema_file}
use Rattle.desk_inputs.specs.Readings.{known_files}
use Rattle.desk_outside.specs.Files.{Files}
use Rattle.desk_responses.specs.ResponseValues.{Allowed, ResponseValue}
use Rattle.desk_responses.specs.declared.status.Status.TheVariants.{Yes}
use Rattle.desk_words.specs.Forms.{RulesQuestion, Task, discover, explain_implies, form_of, implies, keys_of_rows, minimal_rules, near_rules, of_schema, over_schema, report, report_plan, small_rules}

-- a text means one value at most, or is refused in one way at most, and never both
pub record HasOneReading {Value Refusal : Type 0} (Means : Value → Type 0) (Refuses : Refusal → Type 0)
    : Type 0 where
  pub one_meaning : (value other : Value) → Means value → Means other → value ≡ other
  pub one_refusal : (refusal other : Refusal) → Refuses refusal → Refuses other → refusal ≡ other
  pub never_both : (value : Value) (refusal : Refusal) → Means value → Refuses refusal → ⊥

-- it is asked whether a goal is implied, and it is: both answers say so. `implies` asks, whose answers are equal
-- where the derivation that is printed is fixed, or `explain implies`
pub record BothDerive (schema : Schema) (task : Task) (one other : ResponseValue) : Type 0 where
  pub goal : List ℕ
  pub both : AreBothYes schema goal one other
  pub asks : ((task ≡ of_schema (implies goal)) × (HasFixedProof schema both.dependency → one ≡ other))
      ⊎ (task ≡ of_schema (explain_implies goal))

-- a page is asked for, of the schema of a file, or of it and a plan
abbrev pub AsksForAPage : Task → Type 0
AsksForAPage task =
    ((file : List ℕ) × (task ≡ report file))
    ⊎ ((file : List ℕ) × (plan : List ℕ) × (task ≡ report_plan file plan))

-- a page, which shows derivations of goals, is asked for: both answers say yes
pub record BothReport (task : Task) (one other : ResponseValue) : Type 0 where
  pub asks : AsksForAPage task
  pub one_says_yes : one.status ≡ Yes
  pub other_says_yes : other.status ≡ Yes

-- two answers are equal, but for the derivation of a goal that is implied, or those on a page
abbrev pub IsOneButForProof : Schema → Task → ResponseValue → ResponseValue → Type 0
IsOneButForProof schema task one other =
    (one ≡ other) ⊎ (BothDerive schema task one other ⊎ BothReport task one other)

-- the words ask whether the schema of a file implies a goal, and it does
pub record AskWhatIsDerived (files : Files) (words : List (List ℕ)) (one other : ResponseValue) : Type 0 where
  pub file : List ℕ
  pub task : Task
  pub forms : form_of words ≡ Some (over_schema file task)
  pub schema : Schema
  pub read : IsFile schema_file (known_files files) file schema
  pub derive : BothDerive schema task one other

-- the words ask for a page of the schema of a file, and both answers say yes
pub record AskForAPage (words : List (List ℕ)) (one other : ResponseValue) : Type 0 where
  pub file : List ℕ
  pub task : Task
  pub forms : form_of words ≡ Some (over_schema file task)
  pub reports : BothReport task one other

-- the refusal of a search for rules that meets too many candidates: of a column of the file for left sides, or
-- for keys
abbrev pub RefusesSearch : RulesQuestion → List ℕ → HeadedRows → Allowed
RefusesSearch minimal_rules file headed = RefusesRules (length headed.names) file headed
RefusesSearch (small_rules most) file headed = RefusesRules most file headed
RefusesSearch keys_of_rows file headed = RefusesRowKeys file headed
RefusesSearch (near_rules limit most) file headed = λ _. ⊥

-- the words ask for rules of the rows of a file, and one of the answers is such a refusal
pub record AskForRules (files : Files) (words : List (List ℕ)) (one other : ResponseValue) : Type 0 where
  pub file : List ℕ
  pub question : RulesQuestion
  pub forms : form_of words ≡ Some (discover question file)
  pub headed : HeadedRows
  pub read : IsFile headed_file (known_files files) file headed
  pub refused : RefusesSearch question file headed one ⊎ RefusesSearch question file headed other

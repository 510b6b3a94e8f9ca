-- What every refusal is, and the names that words give: for the law of this crate. `Desk` does not cite it.
use Rattle.std.specs.Prelude.{◌≡◌, ◌⊎◌, ℕ, false, List, [], ◌∷◌, ◌++◌, codes, Contains}
use Rattle.std.specs.Option.{option_map_or}
use Rattle.desk_words.specs.Forms as form
use Rattle.desk_words.specs.Forms.{CommandForm, Task, form_of}
use Rattle.desk_inputs.specs.Readings.{Reading}
use Rattle.desk_responses.specs.ResponseValues.{ResponseValue}
use Rattle.desk_responses.specs.declared.status.Status.TheVariants.{Refused}
use Rattle.desk_tables.specs.OwnFolders.{Looks}
use Rattle.desk_texts.specs.Texts.{line}
use Rattle.desk_cli.specs.Performs.{Answers}
use Rattle.reason_laws.specs.ReasonLines.{has_line_feed}

-- ---- names
-- the names of files and folders that a task has
abbrev pub names_of_task : Task → List (List ℕ)
names_of_task (form.of_schema question) = []
names_of_task (form.of_plan file question) = file ∷ []
names_of_task (form.of_rows file question) = file ∷ []
names_of_task (form.measure file) = file ∷ []
names_of_task (form.migrate own file normal) = own ∷ file ∷ []
names_of_task (form.migrate_plan own planned file) = own ∷ planned ∷ file ∷ []
names_of_task (form.migrate_into file normal folder) = file ∷ folder ∷ []
names_of_task (form.migrate_plan_into planned file folder) = planned ∷ file ∷ folder ∷ []
names_of_task (form.check_proof file goal) = file ∷ []
names_of_task (form.check_derivation file goal) = file ∷ []
names_of_task (form.of_pair file other_file question) = file ∷ other_file ∷ []
names_of_task (form.rejoin files) = files
names_of_task (form.report file) = file ∷ []
names_of_task (form.report_plan file planned) = file ∷ planned ∷ []

-- those that a command has
abbrev pub names_of_command : CommandForm → List (List ℕ)
names_of_command (form.over_schema file task) = file ∷ names_of_task task
names_of_command (form.discover question file) = file ∷ []
names_of_command (form.discover_all file) = file ∷ []
names_of_command (form.discover_references files) = files
names_of_command (form.check_references file names other other_names) = file ∷ other ∷ []
names_of_command (form.import_csv file) = file ∷ []
names_of_command (form.import_sql dialect file table) = file ∷ []
names_of_command (form.sample persons) = []
names_of_command form.help = []
names_of_command form.version = []

-- those that words give: none where they form no command
abbrev pub names_of_words : List (List ℕ) → List (List ℕ)
names_of_words words = option_map_or names_of_command (form_of words) []

-- ---- refusals
-- at most one of these names stands in a text, and beside it there is no line end
pub record HoldsName (names : List (List ℕ)) (text : List ℕ) : Type 0 where
  pub before : List ℕ
  pub name : List ℕ
  pub after : List ℕ
  pub whole : text ≡ before ++ name ++ after
  pub named : (name ≡ []) ⊎ Contains names name
  pub before_on_line : has_line_feed before ≡ false
  pub after_on_line : has_line_feed after ≡ false

-- a line that begins with `refused: `, and goes on as such a text
pub record IsRefusal (names : List (List ℕ)) (text : List ℕ) : Type 0 where
  pub said : List ℕ
  pub whole : text ≡ line (codes "refused: " ++ said)
  pub holds : HoldsName names said

-- each answer that refuses does it by such a line
abbrev pub EveryRefusalIsOneLine : Type 0
EveryRefusalIsOneLine =
    (looks : Looks) (r : Reading) (words : List (List ℕ)) (response : ResponseValue) → Answers looks r words response
    → response.status ≡ Refused → IsRefusal (names_of_words words) response.text

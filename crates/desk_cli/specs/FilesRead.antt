-- Which files a command reads, in their order: for `desk`, by `Desk`.
use Rattle.std.specs.Prelude.{ℕ, List, [], ◌∷◌}
use Rattle.std.specs.Option.{option_map_or}
use Rattle.desk_words.specs.Forms as form
use Rattle.desk_words.specs.Forms.{CommandForm, Task, form_of}

-- after the schema's own
abbrev pub files_of_task : Task → List (List ℕ)
files_of_task (form.of_schema question) = []
files_of_task (form.of_plan file question) = file ∷ []
files_of_task (form.of_rows file question) = file ∷ []
files_of_task (form.measure file) = file ∷ []
files_of_task (form.migrate own file normal) = file ∷ []
files_of_task (form.migrate_plan own planned file) = planned ∷ file ∷ []
files_of_task (form.migrate_into file normal folder) = file ∷ []
files_of_task (form.migrate_plan_into planned file folder) = planned ∷ file ∷ []
files_of_task (form.check_proof file goal) = file ∷ []
files_of_task (form.check_derivation file goal) = file ∷ []
files_of_task (form.of_pair file other_file question) = other_file ∷ []
files_of_task (form.rejoin files) = files
files_of_task (form.report file) = []
files_of_task (form.report_plan file planned) = planned ∷ []

abbrev pub files_of_command : CommandForm → List (List ℕ)
files_of_command (form.over_schema file task) = file ∷ files_of_task task
files_of_command (form.discover question file) = file ∷ []
files_of_command (form.discover_all file) = file ∷ []
files_of_command (form.discover_references files) = files
files_of_command (form.check_references file names other other_names) = file ∷ other ∷ []
files_of_command (form.import_csv file) = file ∷ []
files_of_command (form.import_sql dialect file table) = file ∷ []
files_of_command (form.sample persons) = []
files_of_command form.help = []
files_of_command form.version = []

-- none where the words form no command
abbrev pub files_of_words : List (List ℕ) → List (List ℕ)
files_of_words words = option_map_or files_of_command (form_of words) []
